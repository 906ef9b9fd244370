-- The tests of what would be left, one after the other: what each has shown, and what is told where it fails. Assumes nothing.
use mathlib.Core.Path.{◌≡◌, refl, sym, ap, subst, ◌∙◌}
use mathlib.Core.List.{List}
use mathlib.Core.Bool.{Bool, true, false, cond, true≢false}
use Prim.Native.Nat.{ℕ, ◌-◌, ◌<◌, ◌≤◌}
use native.Mathlib.Omega.{arith}
use native.Mathlib.Nat.{le_refl}
use lib.Dec.{ltb}
use lib.IntN.{pos}
use lib.ListN.{length}
use lib.Ieee.{Float, binary64, of_int, lt}
use borrow.Author.Tests.{eq-eqb, ne_eqb, lt-ltb, le-ltb}
use Rattle.laws.specs.Area.{num}
use Rattle.run_record.specs.declared.Settings.{Settings}
use Rattle.run_record.specs.declared.Sizes.{Sizes}
use Rattle.run_record.specs.declared.Run.{Run}
use Rattle.run_record.specs.Record.{is_tree, sizes_of, late_fault, GoodSettings}
use Rattle.take_gone.specs.Gone.{gone_fine, survivors}
use Rattle.take_gone.proofs.Left.{survivors-count, survivors-few, survivors-climb, gone-climbs}
use Rattle.take_rows.proofs.Survive.{survivors-kept}
use Rattle.take_calm.specs.CalmLeft.{calm_left}
use Rattle.take_lists.specs.Packed.{links_left}
use Rattle.take_lists.proofs.Bounds.{before-all}
use Rattle.std.specs.Prelude.{Result, Ok, Err}
use Rattle.std.specs.Result.{is_ok}
use Rattle.refusal.specs.declared.Refusal.{Refusal}
use Rattle.refusal.specs.Refusal.{refusal_number, number_told}
use Rattle.refusal.proofs.Numbers.{refusal-some}
use Rattle.take_left.specs.declared.Denial.TheVariants.{Inside, Unordered, Few, Perplexed, Crowded, Barred}
use Rattle.take_left.specs.Outlook.{thinned, crowded, outlook_of, OutlookRoom, CountRoom}

-- so many are left
pub count_left : (g : List ℕ) (n : ℕ) → gone_fine g n ≡ true → (length g ≤ n) × (n - length g ≡ length (survivors g n))
count_left g n f = (omega (arith, survivors-count g n f), omega (arith, survivors-count g n f))

-- ---- an answer that is no refusal has the number 0, a refusal another

pub told-none : {A : Type 0} (a : Result A Refusal) (k : ℕ) → number_told refusal_number a ≡ k → is_ok a ≡ true → k ≡ 0
told-none (Ok x) k e o = sym e
told-none (Err d) k e o = absurd (true≢false (sym o))

pub told-some : {A : Type 0} (a : Result A Refusal) (k : ℕ) → number_told refusal_number a ≡ k → is_ok a ≡ false → k ≡ 0 → ⊥
told-some (Ok x) k e o z = true≢false o
told-some (Err d) k e o z = refusal-some d (e ∙ z)

-- ---- the settings of what would be left

late_is : (s : Settings) (m : ℕ) → 2 ≤ m → late_fault (thinned s m) ≡ cond (lt s.perplexity (of_int binary64 (pos m))) 0 10
unfolding late_fault thinned
late_is s m h = rw (ne_eqb m 1 (λ e. omega arith))

abbrev late_of : Bool → ℕ
late_of b = cond b 0 10

below-told : (b : Bool) → late_of b ≡ 0 → b ≡ true
below-told true e = refl
below-told false e = absurd (omega (arith, e))

above-told : (b : Bool) → (late_of b ≡ 0 → ⊥) → b ≡ false
above-told true e = absurd (e refl)
above-told false e = refl

pub late_below : (s : Settings) (m k : ℕ) → 2 ≤ m → k ≡ late_fault (thinned s m) → k ≡ 0 → lt s.perplexity (of_int binary64 (pos m)) ≡ true
late_below s m k h e z = below-told (lt s.perplexity (of_int binary64 (pos m))) (sym (late_is s m h) ∙ sym e ∙ z)

pub late-above : (s : Settings) (m k : ℕ) → 2 ≤ m → k ≡ late_fault (thinned s m) → (k ≡ 0 → ⊥) → lt s.perplexity (of_int binary64 (pos m)) ≡ false
late-above s m k h e z = above-told (lt s.perplexity (of_int binary64 (pos m))) (λ q. z (e ∙ late_is s m h ∙ q))

-- the settings of m samples are in order where m is in order for them
pub thinned-fine : (s : Settings) (m : ℕ) → GoodSettings s → 2 ≤ m → m ≤ s.n → lt s.perplexity (of_int binary64 (pos m)) ≡ true → GoodSettings (thinned s m)
unfolding thinned
thinned-fine s m g h l b = record {
  c-some = g.c-some;
  c-most = g.c-most;
  perplexity-positive = g.perplexity-positive;
  rate-positive = g.rate-positive;
  iterations-some = g.iterations-some;
  iterations-most = g.iterations-most;
  tree-fine = g.tree-fine;
  n-some = h;
  n-most = omega (arith, g.n-most);
  f-some = g.f-some;
  f-most = g.f-most;
  perplexity-below = b;
}

pub thinned-n : (s : Settings) (m : ℕ) → (thinned s m).n ≡ m
unfolding thinned
thinned-n s m = refl

-- ---- crowded

pub exact-not-crowded : (s : Settings) (keep I O : List ℕ) → is_tree s.method ≡ false → false ≡ crowded s keep I O
unfolding crowded
exact-not-crowded s keep I O e = rw e

module _ {s t : Settings} {g I O : List ℕ} (room : CountRoom s t g I O) (tree : is_tree s.method ≡ true) (z : Sizes) (e : z ≡ sizes_of t) where
  most : z.links ≡ (sizes_of (thinned s (length (survivors g s.n)))).links
  most = ap (λ (x : Sizes). x.links) e ∙ ap (λ (x : Settings). (sizes_of x).links) room.thinned-as

  -- no more links are listed than the lists hold, so none need be counted
  pub few-not-crowded : (listed : ℕ) → listed ≡ num O s.n → listed ≤ z.links → false ≡ crowded s (survivors g s.n) I O
  unfolding crowded
  few-not-crowded listed h l =
      let keep = survivors g s.n in
      let few : links_left keep I O ≤ num O s.n = before-all (room.counted-lie tree) I (survivors-climb g s.n) (survivors-kept g s.n) (length keep) (le_refl (length keep)) in
      rw (tree, le-ltb (sizes_of (thinned s (length keep))).links (links_left keep I O) (omega (arith, few, h, most)))

  pub crowded-counted : (left : ℕ) → left ≡ links_left (survivors g s.n) I O → ltb z.links left ≡ crowded s (survivors g s.n) I O
  unfolding crowded
  crowded-counted left f = rw (tree, most, f)

-- ---- what is known once the first four tests have passed: m are left, t are their settings

pub record Judging (r : Run) (g : List ℕ) (m : ℕ) (t : Settings) : Type 0 where
  pub between : r.phase ≡ 0
  pub listed-fine : gone_fine g r.settings.n ≡ true
  pub count : m ≡ length (survivors g r.settings.n)
  pub enough : 2 ≤ length (survivors g r.settings.n)
  pub below : lt r.settings.perplexity (of_int binary64 (pos (length (survivors g r.settings.n)))) ≡ true
  pub settings : t ≡ thinned r.settings m

pub judging : (r : Run) (g : List ℕ) (m k : ℕ) (t : Settings) → r.phase ≡ 0 → gone_fine g r.settings.n ≡ true → m ≡ r.settings.n - length g → 2 ≤ m →
    t ≡ thinned r.settings m → k ≡ late_fault t → k ≡ 0 → Judging r g m t
judging r g m k t p f e h q l z =
    let c : m ≡ length (survivors g r.settings.n) = e ∙ (count_left g r.settings.n f).1 in
    record {
      between = p;
      listed-fine = f;
      count = c;
      enough = omega (arith, c);
      below = subst (λ (x : ℕ). lt r.settings.perplexity (of_int binary64 (pos x)) ≡ true) c (late_below r.settings m k h (l ∙ ap late_fault q) z);
      settings = q;
    }

-- the links may be counted
pub judging-room : {r : Run} {g : List ℕ} {m : ℕ} {t : Settings} {y : List Float} {I O : List ℕ} → OutlookRoom r y I O → Judging r g m t → CountRoom r.settings t g I O
judging-room {r} {g} {m} {t} v j = record {
  samples-most = v.settings-good.n-most;
  thinned-as = j.settings ∙ ap (thinned r.settings) j.count;
  thinned-good = rw (j.settings ∙ ap (thinned r.settings) j.count)
      (thinned-fine r.settings (length (survivors g r.settings.n)) v.settings-good j.enough (survivors-few g r.settings.n) j.below);
  gone-rises = gone-climbs g r.settings.n j.listed-fine;
  counted-lie = v.lists-lie;
  counted-name = v.lists-name;
}

-- ---- the outlook

module _ (r : Run) (g : List ℕ) (y : List Float) (I O : List ℕ) where
  pub judged-inside : (r.phase ≡ 0 → ⊥) → Err Inside ≡ outlook_of r g y I O
  unfolding outlook_of
  judged-inside p = rw (ne_eqb r.phase 0 p)

  pub judged-unordered : r.phase ≡ 0 → gone_fine g r.settings.n ≡ false → Err Unordered ≡ outlook_of r g y I O
  unfolding outlook_of
  judged-unordered p f = rw (eq-eqb r.phase 0 p, f)

  module _ (p : r.phase ≡ 0) (f : gone_fine g r.settings.n ≡ true) where
    pub judged-few : length (survivors g r.settings.n) < 2 → Err Few ≡ outlook_of r g y I O
    unfolding outlook_of
    judged-few h = rw (eq-eqb r.phase 0 p, f, lt-ltb (length (survivors g r.settings.n)) 2 h)

    module _ (m : 2 ≤ length (survivors g r.settings.n)) where
      pub judged-perplexed : lt r.settings.perplexity (of_int binary64 (pos (length (survivors g r.settings.n)))) ≡ false → Err Perplexed ≡ outlook_of r g y I O
      unfolding outlook_of
      judged-perplexed b = rw (eq-eqb r.phase 0 p, f, le-ltb (length (survivors g r.settings.n)) 2 m, b)

      module _ (b : lt r.settings.perplexity (of_int binary64 (pos (length (survivors g r.settings.n)))) ≡ true) where
        pub judged-crowded : crowded r.settings (survivors g r.settings.n) I O ≡ true → Err Crowded ≡ outlook_of r g y I O
        unfolding outlook_of
        judged-crowded e = rw (eq-eqb r.phase 0 p, f, le-ltb (length (survivors g r.settings.n)) 2 m, b, e)

        pub judged-left : (k : ℕ) → k ≡ length (survivors g r.settings.n) → crowded r.settings (survivors g r.settings.n) I O ≡ false →
            calm_left (survivors g r.settings.n) r.settings.c y ≡ true → Ok k ≡ outlook_of r g y I O
        unfolding outlook_of
        judged-left k q e c = rw (eq-eqb r.phase 0 p, f, le-ltb (length (survivors g r.settings.n)) 2 m, b, e, c) (ap Ok q)

        pub judged-barred : crowded r.settings (survivors g r.settings.n) I O ≡ false → calm_left (survivors g r.settings.n) r.settings.c y ≡ false → Err Barred ≡ outlook_of r g y I O
        unfolding outlook_of
        judged-barred e c = rw (eq-eqb r.phase 0 p, f, le-ltb (length (survivors g r.settings.n)) 2 m, b, e, c)

pub told-crowded : {r : Run} {g : List ℕ} {m : ℕ} {t : Settings} (y : List Float) (I O : List ℕ) → Judging r g m t →
    crowded r.settings (survivors g r.settings.n) I O ≡ true → Err Crowded ≡ outlook_of r g y I O
told-crowded {r} {g} y I O j e = judged-crowded r g y I O j.between j.listed-fine j.enough j.below e

pub told-left : {r : Run} {g : List ℕ} {m : ℕ} {t : Settings} (y : List Float) (I O : List ℕ) → Judging r g m t →
    crowded r.settings (survivors g r.settings.n) I O ≡ false → calm_left (survivors g r.settings.n) r.settings.c y ≡ true →
    Ok m ≡ outlook_of r g y I O
told-left {r} {g} {m} y I O j e c = judged-left r g y I O j.between j.listed-fine j.enough j.below m j.count e c

pub told-barred : {r : Run} {g : List ℕ} {m : ℕ} {t : Settings} (y : List Float) (I O : List ℕ) → Judging r g m t →
    crowded r.settings (survivors g r.settings.n) I O ≡ false → calm_left (survivors g r.settings.n) r.settings.c y ≡ false →
    Err Barred ≡ outlook_of r g y I O
told-barred {r} {g} y I O j e c = judged-barred r g y I O j.between j.listed-fine j.enough j.below e c
