-- `replay::cases::replay_cases` meets its contract: the loop keeps `CasesLead`, and each turn leads on.
use Rattle.std.proofs.Common.{◌≡◌, ℕ, ◌-◌, ◌/◌, ◌<◌, length, Option}
use Rattle.replay.specs.Replay.{no_tally}
use Rattle.replay.specs.Cases.{cases_tally}
use Rattle.replay.specs.declared.cases.Next.{Next}
use Rattle.replay.proofs.Cased.{CasesLead}
use Rattle.replay.proofs.cases.replay_cases.Given as goal

abbrev pub invariant-loop-a : goal.invariant-loop-a
invariant-loop-a g l =
    (h : ℕ → Option Next)
    → ((a : ℕ) (r : Option Next) → a < length l.list / 8 → goal.F-post g l.case a r → r ≡ h a)
    → CasesLead h (length l.list / 8) (cases_tally h (length l.list / 8) (length l.list / 8) 0 no_tally) l.a l.t

abbrev pub decreases-loop-a : goal.decreases-loop-a
decreases-loop-a g l = l.words - l.a
