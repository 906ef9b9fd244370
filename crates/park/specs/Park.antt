-- Parking a run: the order of the tests, and what is written. Definitions only.
use Rattle.std.specs.Prelude.{List, ◌≡◌, Bool, true, cond, not, ◌&&◌, ℕ, ◌*◌, ◌<◌, ◌≤◌, eqb, ltb, length, Result, Ok, Err}
use Rattle.laws.specs.Domain.{most_components, most_frames}
use Rattle.laws.specs.Loops.{every}
use Rattle.laws.specs.Area.{num, bits}
use Rattle.laws.specs.Joined.{laid}
use Rattle.elementary.specs.Limits.{calm}
use Rattle.little.specs.Little.{little_bytes}
use Rattle.tree_node.specs.declared.Node.{Node}
use Rattle.run_entry.specs.Entry.{Found, by_tests, fault_number}
use Rattle.words_entry.specs.WordsEntry.{words_fault}
use Rattle.parked.specs.declared.Layout.{Layout}
use Rattle.parked.specs.Layout.{records_in}
use Rattle.parked.specs.Parked.{Stored, links_in, layout_in, parked_word, StoredRoom}
use Rattle.refusal.specs.Refusal.{number_told}
use Rattle.park.specs.declared.ParkFault.{ParkFault}
use Rattle.park.specs.declared.ParkFault.TheVariants.{Inside, Barred, Short, Bad}

-- the first m values of an area: 15 bars none
unfoldable pub calm_all : List ℕ → ℕ → Bool
calm_all v m = every (λ i. calm (bits (num v i))) m

unfoldable pub calm_state : ℕ → List ℕ → List ℕ → List ℕ → Bool
calm_state m p i g = calm_all p m && calm_all i m && calm_all g m

-- what is answered, and the target afterwards
pub record Parking : Type 0 where
  pub answer : Result ℕ ParkFault
  pub target : List ℕ

abbrev pub parking : Result ℕ ParkFault → List ℕ → Parking
parking a t = record { answer = a; target = t }

-- the target from its start on holds the records; a longer one keeps its tail
unfoldable pub parked_into : Layout → Stored → List ℕ → List ℕ
parked_into l d t = laid (λ w. little_bytes 8 (parked_word l d w)) 8 l.end t

-- once the entry tests have found f: 17 inside an iteration, 15 for a value that it bars, 12 for a target below the records needed
unfoldable pub park_tested : Found → Stored → List ℕ → Parking
park_tested f d t =
    let l = layout_in d.run d.offsets in
    by_tests f
    (cond (not (eqb (num d.run 11) 0)) (parking (Err Inside) t)
    (cond (not (calm_state l.cells d.positions d.increments d.gains)) (parking (Err Barred) t)
    (cond (ltb (length t) (8 * l.end)) (parking (Err Short) t)
    (parking (Ok (records_in l)) (parked_into l d t)))))
    (λ b. parking (Err (Bad b)) t)

-- the run in d with so many forces and these nodes, written to t
unfoldable pub park_of : Stored → ℕ → List Node → List ℕ → Parking
park_of d forces ns t = park_tested (words_fault d.run (length d.positions) (length d.increments) (length d.gains) (length d.affinities) forces d.indices d.offsets ns) d t

-- the number of a refusal; 0 where there is none
abbrev pub park_fault_number : ParkFault → ℕ
park_fault_number Inside = 17
park_fault_number Barred = 15
park_fault_number Short = 12
park_fault_number (Bad f) = fault_number f

abbrev pub park_number : Result ℕ ParkFault → ℕ
park_number a = number_told park_fault_number a

-- what the entry tests have shown of the words and the offsets by which a run lies
pub record LayoutRoom (w off : List ℕ) : Type 0 where
  pub words_long : 14 ≤ length w
  pub frames-most : num w 0 ≤ most_frames
  pub components-most : num w 2 ≤ most_components
  pub last-offset : eqb (num w 3) 1 ≡ true → num w 0 < length off
  pub links-most : links_in (eqb (num w 3) 1) (num w 0) off ≤ 40000000

-- .. and of the areas
pub record ParkRoom (d : Stored) : Type 0 where
  pub layout : LayoutRoom d.run d.offsets
  pub areas : StoredRoom (layout_in d.run d.offsets) d
