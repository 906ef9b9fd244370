-- What the replays' small functions say of bytes, places and tests. Definitions only.
use Rattle.std.specs.Prelude.{ℕ, ◌+◌, ◌*◌, ◌/◌, ◌%◌, ◌^◌, Bool, cond, ◌&&◌, ◌||◌, List, [], ◌∷◌, length, min, ◌==◌, nat_eq, nat_lt}
use Rattle.laws.specs.Loops.{every}
use Rattle.laws.specs.Area.{num, zero64}
use Rattle.tree_node.specs.declared.Cell.{Cell}
use Rattle.replay.specs.Replay.{word_of}
use Rattle.replay.specs.Areas.{onward, wanted_at}
use Rattle.replay_areas.specs.declared.lengths.Lengths.{Lengths}
use Rattle.replay_areas.specs.declared.lengths.Places.{Places}
use Rattle.replay_areas.specs.declared.wanted.Wants.{Wants}

-- byte i from word a of a list on, the lowest byte of a word first
unfoldable pub list_byte : List ℕ → ℕ → ℕ → ℕ
list_byte l a i = word_of l (onward a (i / 8)) / 2 ^ (8 * (i % 8)) % 256

-- the mark of byte i of a target
abbrev pub byte_mark : ℕ → ℕ
byte_mark i = i % 251 + 1

-- byte i of a target of m bytes, as it is listed: zeros follow the last
unfoldable pub listed_byte : List ℕ → ℕ → ℕ → ℕ
listed_byte t m i = cond (nat_lt i m && nat_lt i 1408) (num t i) 0

-- the words from a on hold the first m bytes of the target, filled up with zeros to a whole word
abbrev pub target_stands : List ℕ → ℕ → List ℕ → ℕ → Bool
target_stands t m l a = every (λ i. nat_eq (listed_byte t m i) (list_byte l a i)) (8 * ((m + 7) / 8))

-- past the first m bytes the target has its marks
abbrev pub marks_stay : List ℕ → ℕ → Bool
marks_stay t m = every (λ i. nat_lt i m || num t i == byte_mark i) 1408

-- the target's first bytes are the file
abbrev pub file_stands : List ℕ → List ℕ → Bool
file_stands f t = every (λ i. nat_eq (num f i) (listed_byte t (length f) i)) (length f)

-- word i of an area that is listed from word a on
abbrev pub listed_word : List ℕ → ℕ → ℕ → ℕ
listed_word l a i = word_of l (onward a i)

-- the same as a number of 32 bits: a word that does not fit is cut down to the largest
abbrev pub listed_number : List ℕ → ℕ → ℕ → ℕ
listed_number l a i = min (listed_word l a i) 4294967295

-- the words from a on are the first m bytes of the area, one word each
abbrev pub bytes_stand : List ℕ → ℕ → List ℕ → ℕ → Bool
bytes_stand t m l a = every (λ i. nat_eq (num t i) (listed_word l a i)) m

-- number and value are the words from i on
abbrev pub told_stands : ℕ → ℕ → List ℕ → ℕ → Bool
told_stands k v l i = (k == word_of l i) && (v == word_of l (onward i 1))

-- the mark of place i of an area of values, by its bits
abbrev pub value_mark : ℕ → ℕ
value_mark i = (0x4000000000000000 + i) % 2 ^ 64

-- the first m places have the words from a on, and the others their marks
abbrev pub values_stand : List ℕ → ℕ → List ℕ → ℕ → Bool
values_stand v m l a = every (λ i. nat_eq (num v i) (wanted_at l a m i 0x4000000000000000)) (length v)

-- the areas follow each other from word a on
abbrev pub places_of : Lengths → ℕ → Places
places_of l a =
    let i = onward a l.positions in
    let g = onward i l.increments in
    let f = onward g l.gains in
    let x = onward f l.affinities in
    let o = onward x l.indices in
    record { positions = a; increments = i; gains = g; affinities = f; indices = x; offsets = o; end = onward o l.offsets }

-- a node of zeros
abbrev pub empty_cell : Cell
empty_cell =
    let z = zero64 ∷ zero64 ∷ zero64 ∷ [] in
    record { centre = z; half = z; mass = z; count = 0; first = 0; leaf = 0 }

-- the lengths of nothing
abbrev pub no_lengths : Lengths
no_lengths = record { positions = 0; increments = 0; gains = 0; affinities = 0; indices = 0; offsets = 0; forces = 0; nodes = 0 }

-- how many forces the record from word i on has: n · (2c + 1), where n and c are no more than a run's
abbrev pub zeros_of : List ℕ → ℕ → ℕ
zeros_of f i = min 4096 (word_of f i) * (2 * min 8 (word_of f (onward i 2)) + 1)

-- what a reading whose answer stands at word i has to leave: the record and the areas of a file that is read, nothing of one that is refused
abbrev pub wants_of : List ℕ → ℕ → Lengths → Wants
wants_of f i l =
    let r = onward i 2 in
    cond (nat_eq (word_of f i) 0)
    (record { words = 14; lengths = l; places = places_of l (onward r 14); zeros = zeros_of f r })
    (record { words = 0; lengths = no_lengths; places = places_of no_lengths r; zeros = 0 })
