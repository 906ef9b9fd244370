-- A neighbour list that another tool made: records of 16 bytes, from, to (4 bytes each), weight (8 bytes), little-endian, no header; and its rules. Definitions only.
use Rattle.std.specs.Prelude.{List, Bool, not, ◌&&◌, ◌||◌, ℕ, ◌+◌, ◌-◌, ◌*◌, ◌/◌, ◌<◌, eqb, ltb, length}
use Rattle.laws.specs.Loops.{first}
use Rattle.laws.specs.Area.{bits}
use Rattle.little.specs.Little.{little_of}
use Rattle.run_record.specs.Record.{positive}

-- ---- the records

-- how long a record is
abbrev pub link_bytes : ℕ
link_bytes = 16

-- the whole records of a file
abbrev pub whole_links : List ℕ → ℕ
whole_links f = length f / link_bytes

-- the records given: a stray tail is one more
abbrev pub given_links : List ℕ → ℕ
given_links f = (length f + 15) / link_bytes

-- record i: the frame whose link it is, the frame that it names, and its weight by its bits
abbrev pub link_from : List ℕ → ℕ → ℕ
link_from f i = little_of f (link_bytes * i) 4

abbrev pub link_to : List ℕ → ℕ → ℕ
link_to f i = little_of f (link_bytes * i + 4) 4

abbrev pub link_weight : List ℕ → ℕ → ℕ
link_weight f i = little_of f (link_bytes * i + 8) 8

-- a pair of numbers of 32 bits as one number: pairs are compared by the first, then by the second
abbrev pub pair_of : ℕ → ℕ → ℕ
pair_of a b = 4294967296 * a + b

abbrev pub link_pair : List ℕ → ℕ → ℕ
link_pair f i = pair_of (link_from f i) (link_to f i)

-- the pair that the mirror of record i has
abbrev pub turned_pair : List ℕ → ℕ → ℕ
turned_pair f i = pair_of (link_to f i) (link_from f i)

-- ---- the rules, where there are n frames and at most so many links

-- record i is not one too many; its frames are below n; its pair is above that of the record before it; it does not link a frame with itself; its weight is finite and above zero
unfoldable pub link_fine : ℕ → ℕ → List ℕ → ℕ → Bool
link_fine n most f i =
    ltb i most
    && (ltb (link_from f i) n && ltb (link_to f i) n)
    && (eqb i 0 || ltb (link_pair f (i - 1)) (link_pair f i))
    && not (eqb (link_from f i) (link_to f i))
    && positive (bits (link_weight f i))

-- record j is the mirror of record i: from and to exchanged, the weight's bits the same
unfoldable pub is_mirror : List ℕ → ℕ → ℕ → Bool
is_mirror f i j = eqb (link_from f j) (link_to f i) && eqb (link_to f j) (link_from f i) && eqb (link_weight f j) (link_weight f i)

-- one of the k records from record a on is the mirror of record i
unfoldable pub mirrored_in : List ℕ → ℕ → ℕ → ℕ → Bool
mirrored_in f i a k = ltb (first (λ t. is_mirror f i (a + t)) k) k

-- a whole record somewhere in the file is
abbrev pub mirrored : List ℕ → ℕ → Bool
mirrored f i = mirrored_in f i 0 (whole_links f)

-- record i meets every rule; a stray tail meets none
unfoldable pub partner_fine : ℕ → ℕ → List ℕ → ℕ → Bool
partner_fine n most f i = ltb i (whole_links f) && link_fine n most f i && mirrored f i

-- the first record at which a rule fails; the number of records where there is none
unfoldable pub first_bad_link : ℕ → ℕ → List ℕ → ℕ
first_bad_link n most f = first (λ i. not (partner_fine n most f i)) (given_links f)

-- the list is accepted
abbrev pub is_partner : ℕ → ℕ → List ℕ → Bool
is_partner n most f = eqb (first_bad_link n most f) (given_links f)

-- ---- what the search asks

-- the pairs of the k records from record a on rise strictly
pub record PairsRise (f : List ℕ) (a k : ℕ) : Type 0 where
  pub rises : (s t : ℕ) → s < t → t < k → link_pair f (a + s) < link_pair f (a + t)
