-- What the call cites: what its test has shown, and what it tells in each case. Assumes nothing.
use mathlib.Core.Path.{◌≡◌, sym, ap, ◌∙◌}
use mathlib.Core.List.{List}
use mathlib.Core.Bool.{Bool, true, false}
use Prim.Native.Nat.{ℕ, ◌≤◌}
use lib.ListN.{length, set}
use Rattle.run_record.specs.declared.Run.{Run}
use Rattle.tree_node.specs.declared.Node.{Node}
use Rattle.record_words.specs.RecordWords.{run_of, Worded, worded}
use Rattle.fault_words.specs.FaultWords.{unfit, unfit_told}
use Rattle.fault_words.proofs.Fit.{fit-room, fit-long}
use Rattle.take_out.specs.TakeOut.{Holdings, TakeAnswer, TookOut, took_out, take_out, take_number}
use Rattle.desk_take.specs.HostTake.{taken_told, size_put, host_took, taken_in, unfit_in, host_take}

module _ (g w : List ℕ) (h : Holdings) (ns : List Node) (a : List ℕ) (b : Bool) (q : b ≡ unfit w (length a)) where
  pub unfit-told : b ≡ true → (k : ℕ) (a' : List ℕ) → worded k a' ≡ unfit_told w a → host_took k a' w h ≡ host_take g w h ns a
  unfolding host_take
  unfit-told y k a' e = rw (sym q ∙ y) (ap (λ (x : Worded). unfit_in x w h) e)

  pub told-room : b ≡ false → 1 ≤ length a
  told-room y = fit-room w (length a) (sym q ∙ y)

  pub record-long : b ≡ false → 14 ≤ length w
  record-long y = fit-long w (length a) (sym q ∙ y)

  pub taken-said : b ≡ false → (r : Run) → r ≡ run_of w → (o : TakeAnswer) (r' : Run) (h' : Holdings) → took_out o r' h' ≡ take_out g r h ns
      → (w' : List ℕ) → w' ≡ size_put r' w → (k : ℕ) (a' : List ℕ) → worded k a' ≡ worded (take_number o) (set a 0 (taken_told o)) → host_took k a' w' h' ≡ host_take g w h ns a
  unfolding host_take
  taken-said y r er o r' h' eo w' ew k a' e =
      let o' : took_out o r' h' ≡ take_out g (run_of w) h ns = eo ∙ ap (λ (x : Run). take_out g x h ns) er in
      rw (sym q ∙ y)
      (ap (λ (x : Worded). host_took x.number x.words w' h') e ∙ ap (λ (x : List ℕ). host_took (take_number o) (set a 0 (taken_told o)) x h') ew ∙ ap (λ (x : TookOut). taken_in x a w) o')
