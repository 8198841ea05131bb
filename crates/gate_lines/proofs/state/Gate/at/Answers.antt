-- `gate_lines::state::Gate::at` meets its contract: as many keys are kept as there is room for. Assumes nothing.
use mathlib.Core.Path.{◌≡◌, refl, ap, ◌∙◌}
use mathlib.Core.List.{List, ◌++◌}
use Prim.Native.Nat.{ℕ, ◌≤◌, min}
use native.Mathlib.Omega.{arith}
use lib.ListN.{length, take}
use lib.Seq.{take_at, length-take-le}
use Rattle.common.proofs.ListsLaws.{take_most}
use Rattle.gate_lines.specs.Gate.{most_cards}
use Rattle.gate_lines.proofs.LentLaws.{front_blank}
use Rattle.gate_lines.proofs.state.Gate.at.Goals as goal

-- the first n of a list, stored at the front of another, are its first 1,024
kept : (keys k d : List ℕ) (n : ℕ) → n ≡ min (length keys) most_cards → k ≡ take n keys → n ≤ length keys → take n (k ++ d) ≡ take most_cards keys
kept keys k d n e f i = take_at k d n (ap length f ∙ length-take-le n keys i) ∙ f ∙ take_most n most_cards keys e

pub returns : goal.returns
returns c =
    ap (λ (l : List ℕ). record { session = c.args.session; keys = l; object = c.args.object.now })
    (kept c.args.keys.now _ _ c.min-cards.result c.min-cards.ensures c.copy_from_slice.ensures.after (omega arith))

pub invariant_of-result : goal.invariant_of-result
invariant_of-result c =
    let long : length c.copy_from_slice.new.self ≡ c.min-cards.result =
    ap length c.copy_from_slice.ensures.after ∙ length-take-le c.min-cards.result c.args.keys.now (omega arith) in
    front_blank most_cards c.min-cards.result c.copy_from_slice.new.self _ (omega arith) long refl
