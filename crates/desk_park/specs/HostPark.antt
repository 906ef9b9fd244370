-- Parking a run, with record and answer as plain words. Definitions only.
-- a are the answer's words: word 0 tells the records written, or, refused, the place that comes with the number, 0 where none does.
use Rattle.std.specs.Prelude.{List, cond, ℕ, eqb, length, set, Result, Ok, Err}
use Rattle.tree_node.specs.declared.Node.{Node}
use Rattle.fault_words.specs.FaultWords.{fault_value}
use Rattle.parked.specs.Parked.{Stored}
use Rattle.park.specs.declared.ParkFault.{ParkFault}
use Rattle.park.specs.declared.ParkFault.TheVariants.{Inside, Barred, Short, Bad}
use Rattle.park.specs.Park.{Parking, park_of, park_number}

abbrev pub parked_told : Result ℕ ParkFault → ℕ
parked_told (Ok k) = k
parked_told (Err Inside) = 0
parked_told (Err Barred) = 0
parked_told (Err Short) = 0
parked_told (Err (Bad f)) = fault_value f

-- the number, and target and answer as they are left
pub record HostParked : Type 0 where
  pub number : ℕ
  pub target : List ℕ
  pub answer : List ℕ

abbrev pub host_parked : ℕ → List ℕ → List ℕ → HostParked
host_parked k t a = record { number = k; target = t; answer = a }

abbrev pub parking_told : Parking → List ℕ → HostParked
parking_told p a = host_parked (park_number p.answer) p.target (set a 0 (parked_told p.answer))

-- an answer without a word: 12, and nothing can be told
unfoldable pub host_park : Stored → ℕ → List Node → List ℕ → List ℕ → HostParked
host_park d forces ns t a = cond (eqb (length a) 0) (host_parked 12 t a) (parking_told (park_of d forces ns t) a)
