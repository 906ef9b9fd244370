-- The cases of a list, one after the other. Definitions only.
use Rattle.std.specs.Prelude.{ℕ, zero, suc, Bool, false, cond, List, nat_lt, Option, None, Some}
use Rattle.replay.specs.Replay.{word_of, tallied}
use Rattle.replay.specs.Areas.{onward}
use Rattle.replay.specs.declared.Tally.{Tally}
use Rattle.replay.specs.declared.cases.Next.{Next}

-- the next case begins as many words further on as word a tells
abbrev pub next_told : List ℕ → ℕ → Bool → Next
next_told l a right = record { right = right; at = onward a (word_of l a) }

-- of n words, at most k cases from word a on: where no case begins, or one does not lead on, the replay ends, and that counts as wrong
unfoldable pub cases_tally : (ℕ → Option Next) → ℕ → ℕ → ℕ → Tally → Tally
cases_tally g n zero a t = t
cases_tally g n (suc k) a t =
    cond (nat_lt a n)
    (elim (g a) [
      | None ↦ tallied t false
      | Some x ↦ cond (nat_lt a x.at) (cases_tally g n k x.at (tallied t x.right)) (tallied (tallied t x.right) false)
    ])
    t
