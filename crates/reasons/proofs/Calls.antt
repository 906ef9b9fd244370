-- What each call tells of a run that it refuses at its entry has its reason in what the call is lent. Assumes nothing.
use Rattle.std.specs.Prelude.{Err}
use mathlib.Core.Path.{◌≡◌, refl, sym, subst, ◌∙◌}
use mathlib.Core.List.{List}
use mathlib.Core.Bool.{true, false}
use Prim.Native.Nat.{ℕ}
use lib.Ieee.{Float}
use Rattle.tree_node.specs.declared.Node.{Node}
use Rattle.run_record.specs.declared.Run.{Run}
use Rattle.run_entry.specs.State.{Memory, State}
use Rattle.run_entry.specs.Entry.{Found, fault_of}
use Rattle.record_words.specs.RecordWords.{run_fine}
use Rattle.fault_words.specs.FaultWords.{unread_fault}
use Rattle.words_entry.specs.WordsEntry.{words_fault}
use Rattle.divergence.specs.Divergence.{divergence_fault}
use Rattle.take_out.specs.TakeOut.{Holdings, take_fault}
use Rattle.reasons.specs.Reasons.{Shown, found_in, Reason, shown_by, shown_copy, shown_held, shown_words}
use Rattle.reasons.proofs.Theorems.{reason-told, reason-only}

-- the reason is there, and what has a reason is told
pub record Explained (s : Shown) (found : Found) : Type 0 where
  pub has-reason : Reason s found
  pub no_other : (f : Found) → Reason s f → found ≡ f

explained : (s : Shown) {found : Found} → found ≡ found_in s → Explained s found
explained s e = record { has-reason = subst (Reason s) (sym e) (reason-told s); no_other = λ f r. e ∙ reason-only s f r }

-- a work call
pub work-explained : (s : State) → Explained (shown_by s) (fault_of s)
unfolding fault_of
work-explained s = explained (shown_by s) refl

-- a divergence
pub divergence-explained : (r : Run) (m : Memory) (y : List Float) → Explained (shown_copy r m y) (divergence_fault r m y)
unfolding divergence_fault
divergence-explained r m y = explained (shown_copy r m y) refl

-- a removal
pub removal-explained : (r : Run) (h : Holdings) (ns : List Node) → Explained (shown_held r h ns) (take_fault r h ns)
unfolding take_fault
removal-explained r h ns = explained (shown_held r h ns) refl

-- parking, lists and strip: words that are a record
module _ (w : List ℕ) (p i g a f : ℕ) (xs off : List ℕ) (ns : List Node) where
  pub words-explained : run_fine w ≡ true → Explained (shown_words w p i g a f xs off ns) (words_fault w p i g a f xs off ns)
  unfolding words_fault
  words-explained e = explained (shown_words w p i g a f xs off ns) (rw e)

  -- .. and words that are none: the areas are not looked at
  pub unread-explained : run_fine w ≡ false → words_fault w p i g a f xs off ns ≡ Err (unread_fault w)
  unfolding words_fault
  unread-explained e = rw e
