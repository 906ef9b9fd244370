-- Reading a parked run back, with record and answer as plain words. Definitions only.
-- a are the answer's words: word 0 tells the records read, or the first bad one, 0 where a lent area is too short.
use Rattle.std.specs.Prelude.{List, cond, ℕ, eqb, length, set, Float, Result, Ok, Err}
use Rattle.parked.specs.Parked.{Stored}
use Rattle.refusal.specs.declared.Unreadable.{Unreadable}
use Rattle.refusal.specs.declared.Unreadable.TheVariants.{Bad, Short}
use Rattle.unpark.specs.Unpark.{Unparking, unpark_of, unpark_number}

abbrev pub unparked_told : Result ℕ Unreadable → ℕ
unparked_told (Ok k) = k
unparked_told (Err (Bad q)) = q
unparked_told (Err Short) = 0

-- the number, and record, areas, forces and answer as they are left
pub record HostUnparked : Type 0 where
  pub number : ℕ
  pub left : Stored
  pub forces : List Float
  pub answer : List ℕ

abbrev pub host_unparked : ℕ → Stored → List Float → List ℕ → HostUnparked
host_unparked k d f a = record { number = k; left = d; forces = f; answer = a }

abbrev pub unparking_told : Unparking → List ℕ → HostUnparked
unparking_told u a = host_unparked (unpark_number u.answer) u.left u.forces (set a 0 (unparked_told u.answer))

-- an answer without a word: 12, and nothing can be told
unfoldable pub host_unpark : List ℕ → Stored → List Float → ℕ → List ℕ → HostUnparked
host_unpark file d F nodes a = cond (eqb (length a) 0) (host_unparked 12 d F a) (unparking_told (unpark_of file d F nodes) a)
