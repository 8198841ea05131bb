-- The text of what the merge of two lists of keys says.
-- Assumes nothing.
use Rattle.std.specs.Prelude.{Bool, cond, ◌&&◌, List, [], ◌∷◌, ◌++◌, ℕ, ◌+◌, ◌-◌, ◌*◌, ◌/◌, ◌%◌, eqb, leb, length, get_or, take, drop}
use Rattle.common.specs.Lists.{list_of, number}
use Rattle.ccl.specs.Merge.{merge_of, merged_after}
use Rattle.append.specs.Append.{texts_of, number_text}
use Rattle.vectors.specs.RefusalText.{refusal_text, no_vector}

-- ---- the bytes of a line

-- A key is eight bytes, the highest first.
abbrev pub key_size : ℕ
key_size = 8

-- The first key of the bytes s. A byte past the end counts as 00.
unfoldable pub key_in : List ℕ → ℕ
key_in s = number 256 key_size (λ j. get_or s j 0)

-- The most keys of a list, and the most places.
abbrev pub most_keys : ℕ
most_keys = 32

-- The first `most_keys` keys of s, 0 past the end.
unfoldable pub keys_in : List ℕ → List ℕ
keys_in s = list_of most_keys (λ i. key_in (drop (key_size * i) s))

-- Two bytes say how many keys each list has. The keys of the first follow, then those of the second; all further keys are the places before the call.
abbrev pub first_count : List ℕ → ℕ
first_count s = get_or s 0 0

abbrev pub second_count : List ℕ → ℕ
second_count s = get_or s 1 0

-- The bytes s are that: two bytes and whole keys, at least as many as both lists have; neither the keys of a list nor the places are more than `most_keys`.
unfoldable pub is_merge : List ℕ → Bool
is_merge s =
    let a = first_count s in
    let b = second_count s in
    let keys = length s / key_size in
    eqb (length s % key_size) 2 && leb a most_keys && leb b most_keys && leb (a + b) keys && leb keys (a + b + most_keys)

-- ---- the answer

-- `N keys`, or `refused N`: by document 02's number, and the count beside it
abbrev pub keys_word : List ℕ
keys_word = 0x20 ∷ 0x6B ∷ 0x65 ∷ 0x79 ∷ 0x73 ∷ []

unfoldable pub count_text : ℕ × ℕ → List ℕ
count_text r = cond (eqb r.0 0) (number_text r.1 ++ keys_word) (refusal_text r.0)

-- `, the places`, and the first n of them, each with a space in front
abbrev pub places_word : List ℕ
places_word = 0x2C ∷ 0x20 ∷ 0x74 ∷ 0x68 ∷ 0x65 ∷ 0x20 ∷ 0x70 ∷ 0x6C ∷ 0x61 ∷ 0x63 ∷ 0x65 ∷ 0x73 ∷ []

abbrev pub places_text : ℕ → List ℕ → List ℕ
places_text n places = texts_of n (λ i. 0x20 ∷ number_text (get_or places i 0))

-- What the merge of the lists a and b into some places answers, and all places then.
unfoldable pub merged_text : List ℕ → List ℕ → List ℕ → List ℕ
merged_text a b places =
    let after = merged_after a b places in
    count_text (merge_of a b (length places)) ++ places_word ++ places_text (length after) after

-- The same of the first n keys of s, the m keys after them, and the places after those.
unfoldable pub lists_text : ℕ → ℕ → ℕ → List ℕ → List ℕ
lists_text n m room s = merged_text (take n (keys_in s)) (take m (keys_in (drop (key_size * n) s))) (take room (keys_in (drop (key_size * (n + m)) s)))

unfoldable pub merge_text : List ℕ → List ℕ
merge_text s =
    let n = first_count s in
    let m = second_count s in
    cond (is_merge s) (lists_text n m (length s / key_size - (n + m)) (drop 2 s)) no_vector
