-- Work in units, whatever a unit does: what a call with a budget leaves and answers. Definitions only.
use Rattle.std.specs.Prelude.{List, [], ◌∷◌, Bool, true, false, cond, not, ◌||◌, ℕ, zero, suc, ◌+◌, ◌<◌, ◌≡◌, ltb, leb}
use Rattle.laws.specs.Domain.{most_word}
use Rattle.laws.specs.Loops.{until}

-- how a call can end
pub data Kind : Type 0 where
  faulty over refused running : Kind

-- what is worked on: a state holds the record and every area
pub record Machine (S : Type 0) : Type 0 where
  -- the entry tests find a fault
  pub bad : S → Bool
  -- the run has ended
  pub ended : S → Bool
  -- the next unit is not refused
  pub ok : S → Bool
  -- what the next unit makes of the state
  pub next : S → S

-- what a call leaves and says
pub record Called (S : Type 0) : Type 0 where
  pub state : S
  pub units : ℕ
  pub kind : Kind

module _ {S : Type 0} where
  abbrev pub called : S → ℕ → Kind → Called S
  called s d k = record { state = s; units = d; kind = k }

  -- so many units, one after the other
  unfoldable pub times : (S → S) → ℕ → S → S
  times f zero s = s
  times f (suc n) s = times f n (f s)

module _ {S : Type 0} (m : Machine S) where
  -- no further unit is done here
  unfoldable pub stops : S → Bool
  stops s = m.ended s || not (m.ok s)

  -- the state where a budget leads
  abbrev pub after : ℕ → S → S
  after b s = until (stops) m.next b s

  -- the units done of a budget
  unfoldable pub units_done : ℕ → S → ℕ
  units_done zero s = 0
  units_done (suc b) s = elim (stops s) [ true ↦ 0 | false ↦ suc (units_done b (m.next s)) ]

  -- of a budget b, d units led to t
  unfoldable pub kind_at : ℕ → ℕ → S → Kind
  kind_at b d t = cond (m.ended t) over (cond (ltb d b) refused running)

  unfoldable pub go : ℕ → S → Called S
  go b s = called (after b s) (units_done b s) (kind_at b (units_done b s) (after b s))

  -- a call: the tests, then units until the budget is done, one is refused or the run has ended
  unfoldable pub call : ℕ → S → Called S
  call b s = cond (m.bad s) (called s 0 faulty) (go b s)

  -- the state after calls one after the other
  unfoldable pub left_by : List ℕ → S → S
  left_by [] s = s
  left_by (b ∷ bs) s = left_by bs (call b s).state

  -- the units that these calls tell, together
  unfoldable pub told-by : List ℕ → S → ℕ
  told-by [] s = 0
  told-by (b ∷ bs) s = (call b s).units + told-by bs (call b s).state

unfoldable pub together : List ℕ → ℕ
together [] = 0
together (b ∷ bs) = b + together bs

-- a budget, or the largest there is
unfoldable pub capped : ℕ → ℕ
capped b = cond (leb b most_word) b most_word

-- what is asked of a machine
pub record Lawful {S : Type 0} (m : Machine S) : Type 1 where
  -- a state in good order
  pub Good : S → Type 0
  -- units that may yet be done
  pub rest : S → ℕ
  -- the entry tests pass
  pub passes : (s : S) → Good s → m.bad s ≡ false
  pub keeps : (s : S) → Good s → stops m s ≡ false → Good (m.next s)
  pub lessens : (s : S) → Good s → stops m s ≡ false → rest (m.next s) < rest s
  pub small : (s : S) → Good s → rest s < most_word
