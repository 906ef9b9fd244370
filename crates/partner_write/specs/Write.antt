-- The neighbour lists of a Barnes-Hut run as records for a partner: the order of the tests, and what is written. Definitions only.
use Rattle.std.specs.Prelude.{List, ◌++◌, ◌≡◌, cond, not, ℕ, ◌+◌, ◌-◌, ◌*◌, ◌<◌, ◌≤◌, eqb, ltb, length, drop, Result, Ok, Err}
use Rattle.laws.specs.Area.{num}
use Rattle.laws.specs.Joined.{joined}
use Rattle.little.specs.Little.{little_bytes}
use Rattle.tree_node.specs.declared.Node.{Node}
use Rattle.run_entry.specs.Entry.{Found, by_tests, fault_number}
use Rattle.words_entry.specs.WordsEntry.{words_fault}
use Rattle.parked.specs.Parked.{Stored}
use Rattle.refusal.specs.Refusal.{number_told}
use Rattle.partner_write.specs.declared.ListsFault.{ListsFault}
use Rattle.partner_write.specs.declared.ListsFault.TheVariants.{NoLists, Short, Bad}

-- ---- the records: W are the weights by their bits, I the frames that links name, O the offsets at which lists begin

-- a link in 16 bytes: the frame whose it is and the frame that it names, 4 bytes each, and its weight by its bits, the lowest byte first
abbrev pub link_record : ℕ → ℕ → ℕ → List ℕ
link_record from to w = little_bytes 4 from ++ (little_bytes 4 to ++ little_bytes 8 w)

-- link t of the list of a frame that begins at place a
abbrev pub link_at : List ℕ → List ℕ → ℕ → ℕ → ℕ → List ℕ
link_at W I from a t = link_record from (num I (a + t)) (num W (a + t))

-- the list of frame i
unfoldable pub list_records : List ℕ → List ℕ → List ℕ → ℕ → List ℕ
list_records W I O i = joined (link_at W I i (num O i)) (num O (i + 1) - num O i)

-- the lists of n frames, one after the other
unfoldable pub lists_bytes : ℕ → List ℕ → List ℕ → List ℕ → List ℕ
lists_bytes n W I O = joined (list_records W I O) n

-- the target from its start on holds them; a longer one keeps its tail
unfoldable pub lists_into : ℕ → List ℕ → List ℕ → List ℕ → List ℕ → List ℕ
lists_into n W I O t = lists_bytes n W I O ++ drop (16 * num O n) t

-- ---- the call

-- what is answered, and the target afterwards
pub record Listing : Type 0 where
  pub answer : Result ℕ ListsFault
  pub target : List ℕ

abbrev pub listing : Result ℕ ListsFault → List ℕ → Listing
listing a t = record { answer = a; target = t }

-- once the entry tests have found f: 17 for an exact run, 12 for a target below 16 bytes a link. w are the record's words
unfoldable pub lists_tested : Found → List ℕ → List ℕ → List ℕ → List ℕ → List ℕ → Listing
lists_tested f w W I O t =
    let n = num w 0 in
    by_tests f
    (cond (not (eqb (num w 3) 1)) (listing (Err NoLists) t)
    (cond (ltb (length t) (16 * num O n)) (listing (Err Short) t)
    (listing (Ok (num O n)) (lists_into n W I O t))))
    (λ b. listing (Err (Bad b)) t)

-- the lists of the run in d with so many forces and these nodes, written to t
unfoldable pub written_lists : Stored → ℕ → List Node → List ℕ → Listing
written_lists d forces ns t = lists_tested
    (words_fault d.run (length d.positions) (length d.increments) (length d.gains) (length d.affinities) forces d.indices d.offsets ns)
    d.run d.affinities d.indices d.offsets t

-- the number of a refusal; 0 where there is none
abbrev pub lists_fault_number : ListsFault → ℕ
lists_fault_number NoLists = 17
lists_fault_number Short = 12
lists_fault_number (Bad f) = fault_number f

abbrev pub lists_number : Result ℕ ListsFault → ℕ
lists_number a = number_told lists_fault_number a

-- ---- what the entry tests have shown

-- of the lists of n frames: they lie within the areas, one after the other
pub record ListsLie (n : ℕ) (W I O : List ℕ) : Type 0 where
  pub offsets-long : n < length O
  pub offsets-begin : num O 0 ≡ 0
  pub offsets-rise : (i : ℕ) → i < n → num O i ≤ num O (i + 1)
  pub weights-long : num O n ≤ length W
  pub indices-long : num O n ≤ length I

-- .. and of the words
pub record WriteRoom (w W I O : List ℕ) : Type 0 where
  pub words_long : 14 ≤ length w
  pub lists : num w 3 ≡ 1 → ListsLie (num w 0) W I O
