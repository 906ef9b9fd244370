-- Once the entry tests have been made: what each way leaves, and what an outlook that lets the call go on has shown. Assumes nothing.
use Rattle.std.specs.Prelude.{Ok, Err}
use Rattle.std.specs.Result.{IfOk}
use Rattle.std.proofs.lemmas.Result.{IfOk-at_ok}
use mathlib.Core.Path.{◌≡◌, refl, sym, ap, ◌∙◌}
use mathlib.Core.Logic.{⊎_elim}
use mathlib.Core.List.{List}
use mathlib.Core.Bool.{Bool, true, false, cond, not, true≢false}
use Prim.Native.Nat.{ℕ}
use native.Mathlib.Decide.{ℕ_discrete}
use lib.ListN.{length}
use lib.Ieee.{Float}
use Rattle.laws.proofs.Bools.{two}
use lib.IntN.{pos}
use lib.Dec.{eqb, ltb}
use lib.Ieee.{binary64, of_int, lt}
use Rattle.run_record.specs.declared.Run.{Run}
use Rattle.run_entry.specs.declared.Fault.{Fault}
use Rattle.run_entry.specs.Entry.{Found, is_fine}
use Rattle.run_entry.proofs.Laws.{found-none}
use Rattle.take_gone.specs.Gone.{gone_fine, survivors}
use Rattle.take_gone.proofs.Left.{gone-climbs}
use Rattle.take_calm.specs.CalmLeft.{calm_left}
use Rattle.take_left.specs.declared.Denial.{Denial}
use Rattle.take_left.specs.declared.Denial.TheVariants.{Inside, Unordered, Few, Perplexed, Crowded, Barred}
use Rattle.take_left.specs.Outlook.{Outlook, crowded, outlook_of, thinned_run}
use Rattle.take_left.proofs.Judged.{judged-inside, judged-unordered}
use Rattle.take_out.specs.declared.TakeFault.TheVariants.{Denied, Bad}
use Rattle.take_out.specs.TakeOut.{Holdings, is_accepted, packed_areas, took_out, take_tested, TakeRoom, PackRoom}

-- an outlook that lets the call go on comes of a list that is in order
accepted-fine : (r : Run) (g : List ℕ) (y : List Float) (I O : List ℕ) → is_accepted (outlook_of r g y I O) ≡ true → gone_fine g r.settings.n ≡ true
accepted-fine r g y I O e = elim (ℕ_discrete r.phase 0) [
  | yes p ↦ ⊎_elim (λ f. f) (λ f. absurd (true≢false (sym e ∙ ap is_accepted (sym (judged-unordered r g y I O p f))))) (two (gone_fine g r.settings.n))
  | no p ↦ absurd (true≢false (sym e ∙ ap is_accepted (sym (judged-inside r g y I O p))))
]

-- and it tells how many survive
outlook-counts : (r : Run) (g : List ℕ) (y : List Float) (I O : List ℕ) → IfOk (outlook_of r g y I O) (λ m. m ≡ length (survivors g r.settings.n))
unfolding outlook_of
outlook-counts r g y I O =
    let s = r.settings in
    let keep = survivors g s.n in
    past (not (eqb r.phase 0)) Inside _ (past (not (gone_fine g s.n)) Unordered _ (past (ltb (length keep) 2) Few _
    (past (not (lt s.perplexity (of_int binary64 (pos (length keep))))) Perplexed _ (past (crowded s keep I O) Crowded _ (last (calm_left keep s.c y))))))
  where
    k : ℕ
    k = length (survivors g r.settings.n)

    past : (b : Bool) (d : Denial) (x : Outlook) → IfOk x (λ m. m ≡ k) → IfOk (cond b (Err d) x) (λ m. m ≡ k)
    past true d x e = tt
    past false d x e = e

    last : (b : Bool) → IfOk (cond b (Ok k) (Err Barred)) (λ m. m ≡ k)
    last true = refl
    last false = tt

module _ (r : Run) (g : List ℕ) (h : Holdings) {m : ℕ} (e : Ok m ≡ outlook_of r g h.positions h.indices h.offsets) where
  fine : gone_fine g r.settings.n ≡ true
  fine = accepted-fine r g h.positions h.indices h.offsets (ap is_accepted (sym e))

  -- so many are left
  pub tested-count : m ≡ length (survivors g r.settings.n)
  tested-count = IfOk-at_ok (λ x. x ≡ length (survivors g r.settings.n)) (sym e) (outlook-counts r g h.positions h.indices h.offsets)

  pub tested-room : TakeRoom r h → PackRoom r.settings g h
  tested-room t = record {
    pack-good = t.outlook-room.settings-good;
    pack-gone = gone-climbs g r.settings.n fine;
    pack-positions = t.outlook-room.positions-long;
    pack-increments = t.increments-long;
    pack-gains = t.gains-long;
    pack-forces = t.forces-long;
    pack-table = t.table-long;
    pack-old = t.old-long;
    pack-lists = t.lists-long;
    pack-square = t.square-long;
  }

-- ---- the three ways

module _ (f : Found) (r : Run) (g : List ℕ) (h : Holdings) where
  pub tested-bad : (b : Fault) → f ≡ Err b → took_out (Err (Bad b)) r h ≡ take_tested f r g h
  unfolding take_tested
  tested-bad b e = rw e

  module _ (e : is_fine f ≡ true) where
    pub tested-denied : (d : Denial) → Err d ≡ outlook_of r g h.positions h.indices h.offsets → took_out (Err (Denied d)) r h ≡ take_tested f r g h
    unfolding take_tested
    tested-denied d w = rw (found-none f e, sym w)

    pub tested-done : (m : ℕ) → Ok m ≡ outlook_of r g h.positions h.indices h.offsets → (x : Run) (k : Holdings) → x ≡ thinned_run r m →
        k ≡ packed_areas r.settings (survivors g r.settings.n) h → took_out (Ok m) x k ≡ take_tested f r g h
    unfolding take_tested
    tested-done m w x k a b = rw (found-none f e, sym w, a, b, tested-count r g h w)
