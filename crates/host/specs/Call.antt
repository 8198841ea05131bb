-- What the calls, which host_c exports, leave of an image and of a number that they write through a pointer; and which image comes from a history (demand 3 at the boundary).
-- Assumes nothing.
use Rattle.std.specs.Prelude.{◌≡◌, cond, List, ℕ, eqb}
use Rattle.card.specs.declared.object.Part.{Part}
use Rattle.session.specs.Promise.{History, finish}
use Rattle.session.specs.declared.state.Session.{Session}
use Rattle.host.specs.Image.{load_of, save_of}
use Rattle.host.specs.declared.sessions.FieldPlace.{FieldPlace}

-- The image after a call that gives this number and this session: the session's, or, where the call is refused, every byte as it was.
abbrev pub image_after : List ℕ → ℕ × Session → List ℕ
image_after b given = cond (eqb given.0 0) (save_of given.1) b

-- What a call whose number is n leaves of a value that it writes only where its number is k.
abbrev pub where_number : {A : Type 0} → ℕ → ℕ → A → A → A
where_number k n new old = cond (eqb n k) new old

-- The place of a field as it crosses the boundary.
abbrev pub place_given : FieldPlace → Part
place_given place = record { start = place.start; len = place.length }

-- An image comes from a history where it has the session with which the history ends. The clauses `for_every_list` of the calls are the session's own, of the session of the image that came in
-- and of the image that is left: so the image left comes from the history with that call at its end (proofs/BoundaryLaws.antt).
abbrev pub ImageOf : History → List ℕ → Type 0
ImageOf h b = load_of b ≡ (finish h).session
