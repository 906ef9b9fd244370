-- The numbers of documents 01 and 02 by which a call is refused. Definitions only.
use Rattle.std.specs.Prelude.{ℕ, cond, eqb, Result, Ok, Err}
use Rattle.refusal.specs.declared.Refusal.{Refusal}
use Rattle.refusal.specs.declared.Refusal.TheVariants.{Components, Perplexity, Rate, Iterations, Angle, Axes, Size, Value, Single, Crowd, Start, Short, Wild, Profile, Method}
use Rattle.refusal.specs.declared.Unreadable.{Unreadable}
use Rattle.refusal.specs.declared.Unreadable.TheVariants.{Bad}

abbrev pub refusal_number : Refusal → ℕ
refusal_number Components = 1
refusal_number Perplexity = 2
refusal_number Rate = 3
refusal_number Iterations = 4
refusal_number Angle = 5
refusal_number Axes = 6
refusal_number Size = 7
refusal_number Value = 8
refusal_number Single = 9
refusal_number Crowd = 10
refusal_number Start = 11
refusal_number Short = 12
refusal_number Wild = 15
refusal_number Profile = 20
refusal_number Method = 21

-- the refusal that has a number from 1 to 12, 15 or 20; of another number the last
abbrev pub refusal_of : ℕ → Refusal
refusal_of k =
    cond (eqb k 1) Components
    (cond (eqb k 2) Perplexity
    (cond (eqb k 3) Rate
    (cond (eqb k 4) Iterations
    (cond (eqb k 5) Angle
    (cond (eqb k 6) Axes
    (cond (eqb k 7) Size
    (cond (eqb k 8) Value
    (cond (eqb k 9) Single
    (cond (eqb k 10) Crowd
    (cond (eqb k 11) Start
    (cond (eqb k 12) Short
    (cond (eqb k 15) Wild
    (cond (eqb k 20) Profile Method)))))))))))))

abbrev pub unreadable_number : Unreadable → ℕ
unreadable_number (Bad i) = 16
unreadable_number Unreadable.Short = 12

module _ {A E : Type 0} (f : E → ℕ) where
  -- the number of an answer, 0 where it is no refusal
  abbrev pub number_told : Result A E → ℕ
  number_told (Ok x) = 0
  number_told (Err e) = f e

  -- an answer with the number in the refusal's place
  abbrev pub numbered : Result A E → Result A ℕ
  numbered (Ok x) = Ok x
  numbered (Err e) = Err (f e)
