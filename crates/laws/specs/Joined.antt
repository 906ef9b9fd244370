-- Lists made from a test, from other lists, and from an area with a part of it written. Definitions only.
use Rattle.std.specs.Prelude.{List, [], ◌∷◌, ◌++◌, Bool, cond, ℕ, zero, suc, ◌+◌, ◌-◌, ◌*◌, length, take, drop}

-- the numbers below n at which p holds, rising
unfoldable pub those : (ℕ → Bool) → ℕ → List ℕ
those p zero = []
those p (suc n) = those p n ++ cond (p n) (n ∷ []) []

module _ {A : Type 0} where
  -- f 0, f 1, .. f (n - 1), one after the other
  unfoldable pub joined : (ℕ → List A) → ℕ → List A
  joined f zero = []
  joined f (suc n) = joined f n ++ f n

  -- d, the first k places taken from l, from a on
  abbrev pub pasted : List A → ℕ → ℕ → List A → List A
  pasted l a k d = take k (drop a l) ++ drop k d

  -- l, with w written from place a on; the other places are as they were
  abbrev pub written : List A → ℕ → List A → List A
  written w a l = take a l ++ w ++ drop (a + length w) l

  -- l, with w written so that it ends just below place q
  abbrev pub ending : List A → ℕ → List A → List A
  ending w q l = take (q - length w) l ++ (w ++ drop q l)

  -- g 0, g 1, .. g (n - 1)
  abbrev pub each : (ℕ → A) → ℕ → List A
  each g n = joined (λ j. g j ∷ []) n

  -- n rows of w values, one after the other, then what stood there
  abbrev pub laid : (ℕ → List A) → ℕ → ℕ → List A → List A
  laid row w n l = joined row n ++ drop (n * w) l
