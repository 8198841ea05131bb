-- A session as a fixed number of bytes, its image, and the session of an image. Numbers of several bytes stand with the highest byte first, as in the stamp. docs/HOSTS.md has the layout as a
-- table.
-- Assumes nothing.
use Rattle.std.specs.Prelude.{◌≡◌, Bool, cond, ◌&&◌, ◌||◌, List, [], ◌∷◌, ◌++◌, map, ℕ, suc, ◌+◌, ◌-◌, ◌/◌, ◌%◌, ◌^◌, ◌<◌, eqb, leb, length, get_or, take, drop, replicate}
use Rattle.common.specs.Lists.{list_of, number, concat}
use Rattle.card.specs.Command.{aid_most}
use Rattle.card.specs.Fascn.{fascn_bytes}
use Rattle.card.specs.Object.{empty, most_fields}
use Rattle.card.specs.declared.object.Part.{Part}
use Rattle.session.specs.Tables.{checks}
use Rattle.session.specs.Operation.{dead}
use Rattle.session.specs.declared.state.SessionOpening.{SessionOpening}
use Rattle.session.specs.declared.state.SessionProgress.{SessionProgress}
use Rattle.session.specs.declared.state.Card.{Card}
use Rattle.session.specs.declared.state.Session.{Session}
use Rattle.session.specs.declared.state.Next.{Next}
use Rattle.session.specs.declared.state.Next.TheVariants.{Initial, GetResponse, InitialAgain, GetResponseAgain}

-- ---- numbers

-- The n bytes of a number, the highest first, and the number of n such bytes.
unfoldable pub high_first : ℕ → ℕ → List ℕ
high_first n x = list_of n (λ i. x / 256 ^ (n - suc i) % 256)

unfoldable pub from_high : ℕ → List ℕ → ℕ
from_high n l = number 256 n (λ i. get_or l i 0)

-- ---- parts: where a field's value lies in its step's data

abbrev pub part_size : ℕ
part_size = 8

unfoldable pub part_bytes : Part → List ℕ
part_bytes p = high_first 4 p.start ++ high_first 4 p.len

unfoldable pub part_of_bytes : List ℕ → Part
part_of_bytes l = record { start = from_high 4 (take 4 l); len = from_high 4 (take 4 (drop 4 l)) }

unfoldable pub parts_bytes : List Part → List ℕ
parts_bytes ps = concat (map part_bytes ps)

-- ---- values of one byte

abbrev pub flag_byte : Bool → ℕ
flag_byte b = cond b 1 0

-- The next command: which of the four it is, and its byte, 0 for the step's own.
abbrev pub next_kind : Next → ℕ
next_kind Initial = 0
next_kind (GetResponse second) = 1
next_kind (InitialAgain last) = 2
next_kind (GetResponseAgain last) = 3

abbrev pub next_byte : Next → ℕ
next_byte Initial = 0
next_byte (GetResponse second) = second
next_byte (InitialAgain last) = last
next_byte (GetResponseAgain last) = last

abbrev pub next_in : ℕ → ℕ → Next
next_in kind byte =
    cond (eqb kind 1) (GetResponse byte) (cond (eqb kind 2) (InitialAgain byte) (cond (eqb kind 3) (GetResponseAgain byte) Initial))

-- ---- the layout

abbrev pub image_version : ℕ
image_version = 1

-- Version, mode, step, whether a command is outstanding, the next command, cause and status word.
abbrev pub small_bytes : Session → List ℕ
small_bytes s =
    let p = s.progress in
    image_version ∷ s.opening.mode ∷ p.step ∷ flag_byte p.outstanding ∷ next_kind p.next ∷ next_byte p.next ∷ p.cause ∷ p.sw1 ∷ p.sw2 ∷ []

-- The segments of an image, in their order.
abbrev pub segments : Session → List (List ℕ)
segments s =
    small_bytes s
    ∷ high_first 4 s.opening.date
    ∷ high_first 4 s.card.expiry
    ∷ high_first 8 s.opening.aid_len
    ∷ high_first 8 s.progress.filled
    ∷ s.opening.aid
    ∷ s.outcomes
    ∷ s.card.fascn
    ∷ (map part_bytes s.card.step1 ++ (part_bytes s.card.step2 ∷ []))

-- Their sizes: nine values of one byte each; two numbers of four bytes and two of eight; AID, outcomes and FASC-N; the parts.
abbrev pub segment_sizes : List ℕ
segment_sizes = 9 ∷ 4 ∷ 4 ∷ 8 ∷ 8 ∷ aid_most ∷ checks ∷ fascn_bytes ∷ replicate (suc most_fields) part_size

abbrev pub image_size : ℕ
image_size = 161

-- The image of a session: its segments one after another.
unfoldable pub save_of : Session → List ℕ
save_of s = concat (segments s)

-- ---- and back

-- Bytes cut into parts of the given sizes, one after another, from place `at` on.
unfoldable pub cut_from : ℕ → List ℕ → List ℕ → List (List ℕ)
cut_from at [] b = []
cut_from at (n ∷ ns) b = take n (drop at b) ∷ cut_from (at + n) ns b

unfoldable pub segments_in : List ℕ → List (List ℕ)
segments_in b = cut_from 0 segment_sizes b

-- A value of one byte, and a segment, by its place.
abbrev pub small : List (List ℕ) → ℕ → ℕ
small l i = get_or (get_or l 0 []) i 0

abbrev pub opening_in : List (List ℕ) → SessionOpening
opening_in l = record { mode = small l 1; date = from_high 4 (get_or l 1 []); aid = get_or l 5 []; aid_len = from_high 8 (get_or l 3 []) }

abbrev pub progress_in : List (List ℕ) → SessionProgress
progress_in l =
    record {
      step = small l 2;
      filled = from_high 8 (get_or l 4 []);
      outstanding = eqb (small l 3) 1;
      next = next_in (small l 4) (small l 5);
      cause = small l 6;
      sw1 = small l 7;
      sw2 = small l 8;
    }

abbrev pub card_in : List (List ℕ) → Card
card_in l =
    record {
      fascn = get_or l 7 [];
      expiry = from_high 4 (get_or l 2 []);
      step1 = map part_of_bytes (take most_fields (drop 8 l));
      step2 = part_of_bytes (get_or l 17 []);
    }

abbrev pub session_in : List (List ℕ) → Session
session_in l = record { opening = opening_in l; progress = progress_in l; outcomes = get_or l 6 []; card = card_in l }

-- The bytes that are some session's image: the version, outstanding 0 or 1, and a next command.
abbrev pub is_next : ℕ → ℕ → Bool
is_next kind byte = leb kind 3 && (leb 1 kind || eqb byte 0)

abbrev pub formed : List (List ℕ) → Bool
formed l = eqb (small l 0) image_version && (leb (small l 3) 1 && is_next (small l 4) (small l 5))

unfoldable pub is_image : List ℕ → Bool
is_image b = formed (segments_in b)

-- The session of an image; the dead session where the bytes are no session's image.
unfoldable pub load_of : List ℕ → Session
load_of b = cond (is_image b) (session_in (segments_in b)) dead

-- ---- what the types of a session's values say, of which the image needs this

pub record PartFits (p : Part) : Type 0 where
  pub start : p.start < 256 ^ 4
  pub len : p.len < 256 ^ 4

pub record PartsFit (ps : List Part) : Type 0 where
  pub count : length ps ≡ most_fields
  pub each : (i : ℕ) → i < length ps → PartFits (get_or ps i empty)

pub record Fits (s : Session) : Type 0 where
  pub date : s.opening.date < 256 ^ 4
  pub expiry : s.card.expiry < 256 ^ 4
  pub aid_length : s.opening.aid_len < 256 ^ 8
  pub filled : s.progress.filled < 256 ^ 8
  pub aid : length s.opening.aid ≡ aid_most
  pub outcomes : length s.outcomes ≡ checks
  pub fascn : length s.card.fascn ≡ fascn_bytes
  pub step1 : PartsFit s.card.step1
  pub step2 : PartFits s.card.step2
