-- How the code keeps a field. No public contract cites it.
-- Assumes nothing.
use Rattle.std.specs.Prelude.{Option}
use Rattle.std.specs.Bool.{then_some}
use Rattle.card.specs.Object.{Field}
use Rattle.card.specs.declared.object.FieldRead.{FieldRead}

-- What a row finds, where it is as the row asks.
abbrev pub read_field : Field → Option FieldRead
read_field f = then_some f.ok record { part = f.part; next = f.next }
