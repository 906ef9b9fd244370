-- What is written stands: it is a parked run, of the records told. Assumes nothing.
use mathlib.Core.Path.{◌≡◌, refl, sym, ap, subst, ◌∙◌}
use mathlib.Core.List.{List}
use mathlib.Core.Bool.{Bool, true, false, cond, not, ◌&&◌, ◌||◌}
use Prim.Native.Nat.{ℕ, ◌+◌, ◌-◌, ◌*◌, ◌<◌, ◌≤◌}
use native.Mathlib.Omega.{arith}
use lib.Dec.{eqb, ltb, leb}
use lib.ListN.{length, take, drop, replicate}
use lib.Seq.{take_at}
use lib.Ieee.{Float}
use borrow.Author.Tests.{lt-ltb, le-leb, leb-true, eq-eqb, eqb-true, eqb-false}
use Rattle.laws.specs.Area.{num, bits, zero64}
use Rattle.laws.specs.Joined.{joined}
use Rattle.laws.proofs.Bools.{and_left, and_right, by_bool, or_yes}
use Rattle.laws.proofs.Every.{every-at}
use Rattle.elementary.specs.Limits.{calm, neighbours_of}
use Rattle.little.specs.Little.{little_bytes, word_in}
use Rattle.tree_node.specs.declared.Node.{Node}
use Rattle.run_record.specs.Record.{state_fits, GoodSettings}
use Rattle.record_words.specs.RecordWords.{run_fine, settings_fine, run_of, settings_of, standing_of}
use Rattle.record_words.proofs.Laws.{method-tree}
use Rattle.parked.specs.declared.Layout.{Layout}
use Rattle.parked.specs.Layout.{filled_up, layout_of, records_in}
use Rattle.parked.specs.Parked.{Stored, head_of, links_in, layout_in, parked_word}
use Rattle.parked.specs.Fine.{layout_by, offset_fits}
use Rattle.std.specs.Prelude.{Ok}
use Rattle.park.specs.Park.{calm_all, calm_state, Parking, parked_into, park_of}
use Rattle.parked_file.specs.File.{records_due, is_parked}
use Rattle.parking.specs.Held.{words_most, InWords, first_records}
use Rattle.parking.proofs.Regions.{filled-most, less_one, Stacked, layout-stacked, head-before-end}
use Rattle.parking.proofs.Words.{word-alone, rows_long, word_below, filling, filling-in, filling-out, word-head, word-positions, word-increments}
use Rattle.parking.proofs.Words.{word-gains, word-affinities, word-indices, word-weights}
use Rattle.parking.proofs.Files.{else-true, AreaFine, held_test, WordsFine, FileFine, fine-parked}
use Rattle.parking.proofs.Entries.{Writes, parks-all}
use Rattle.parking.proofs.Heads.{settings_with, first_good, second-good, third-good}
use Rattle.parking.proofs.Lists.{Lists, lists_of}

-- ---- how the run lies

pub record Lying (l : Layout) (w off : List ℕ) : Type 0 where
  pub tree_is : l.tree ≡ eqb (num w 3) 1
  pub n-is : l.n ≡ num w 0
  pub cells_is : l.cells ≡ num w 0 * num w 2
  pub held-is : l.held ≡ cond (eqb (num w 3) 1) (num w 0 + 1) (num w 0 * num w 0)
  pub links-are : l.links ≡ links_in (eqb (num w 3) 1) (num w 0) off
  pub rises : Stacked l

pub lying : (w off : List ℕ) → Lying (layout_in w off) w off
unfolding layout_in layout_of
lying w off = record {
  tree_is = refl;
  n-is = refl;
  cells_is = refl;
  held-is = refl;
  links-are = refl;
  rises = layout-stacked (eqb (num w 3) 1) (num w 0)
      (num w 2) (links_in (eqb (num w 3) 1) (num w 0) off);
}

-- ---- the first three records

pub record HeadIs (g : ℕ → ℕ) (l : Layout) (w : List ℕ) : Type 0 where
  pub method : g 0 ≡ num w 3
  pub n : g 1 ≡ num w 0
  pub f : g 2 ≡ num w 1
  pub c : g 3 ≡ num w 2
  pub perplexity : g 4 ≡ num w 4
  pub rate : g 5 ≡ num w 5
  pub iterations : g 6 ≡ num w 6
  pub angle : g 7 ≡ cond l.tree (num w 7) 0
  pub minimum : g 8 ≡ num w 8
  pub done : g 9 ≡ num w 10
  pub state : g 10 ≡ num w 9
  pub links : g 11 ≡ l.links

pub head-is : (g : ℕ → ℕ) (l : Layout) (w : List ℕ) → ((k : ℕ) → k < 12 → g k ≡ num (head_of l w) k) → HeadIs g l w
unfolding head_of
head-is g l w h = record {
  method = h 0 (omega arith);
  n = h 1 (omega arith);
  f = h 2 (omega arith);
  c = h 3 (omega arith);
  perplexity = h 4 (omega arith);
  rate = h 5 (omega arith);
  iterations = h 6 (omega arith);
  angle = h 7 (omega arith);
  minimum = h 8 (omega arith);
  done = h 9 (omega arith);
  state = h 10 (omega arith);
  links = h 11 (omega arith);
}

pub by-head : (g : ℕ → ℕ) (w off : List ℕ) → HeadIs g (layout_in w off) w → layout_by g ≡ layout_in w off
unfolding layout_by layout_in
by-head g w off h = rw (h.method, h.n, h.c, h.links ∙ (lying w off).links-are)

-- the words of the areas are those of d
pub record WordsAre (g : ℕ → ℕ) (l : Layout) (d : Stored) : Type 0 where
  pub positions : (i : ℕ) → i < l.cells → g (12 + i) ≡ num d.positions i
  pub increments : (i : ℕ) → i < l.cells → g (l.increments + i) ≡ num d.increments i
  pub gains : (i : ℕ) → i < l.cells → g (l.gains + i) ≡ num d.gains i
  pub affinities : (i : ℕ) → i < l.held → g (l.affinities + i) ≡ num (cond l.tree d.offsets d.affinities) i
  pub indices : (i : ℕ) → i < l.links → g (l.indices + i) ≡ num d.indices i
  pub weights : (i : ℕ) → i < l.links → g (l.weights + i) ≡ num d.affinities i

module _ (d : Stored) (F : List Float) (ns : List Node) (t : List ℕ) (W : Writes d F ns t) where
  abbrev w : List ℕ
  w = d.run

  abbrev l : Layout
  l = layout_in d.run d.offsets

  pub method-most : num w 3 ≤ 1
  unfolding run_fine settings_fine
  method-most = leb-true (num w 3) 1 (and_right (leb 9 (length w)) (leb (num w 3) 1)
      (and_right (leb 14 (length w)) (settings_fine w) (and_left (leb 14 (length w) && settings_fine w) (leb (num w 9) 2) W.read)))

  state-most : leb (num w 9) 2 ≡ true
  unfolding run_fine
  state-most = and_right (leb 14 (length w) && settings_fine w) (leb (num w 9) 2) W.read

  pub settings-in : GoodSettings (settings_with (num w 3) (num w 0) (num w 1) (num w 2) (num w 4) (num w 5) (num w 6) (num w 7) (num w 8))
  unfolding run_of settings_of
  settings-in = W.good.settings

  pub lists-in : eqb (num w 3) 1 ≡ true → Lists (num w 0) (2 * num w 0 * neighbours_of (bits (num w 4)) (num w 0)) d.indices d.offsets
  unfolding run_of settings_of
  lists-in e = lists_of (run_of w) d.indices d.offsets ns (W.good.contents (method-tree (num w 3) method-most ∙ e)) (omega (arith, settings-in.n-some))

  state-in : state_fits (standing_of (num w 9)) (num w 10) (num w 6) 0 (bits (num w 8)) ≡ true
  unfolding run_of settings_of
  state-in = rw W.between at W.good.counters.standing-fits

  links-in : cond (eqb (num w 3) 1) (leb l.links (2 * num w 0 * neighbours_of (bits (num w 4)) (num w 0))) (eqb l.links 0) ≡ true
  unfolding links_in
  links-in = rw (lying w d.offsets).links-are (by (eqb (num w 3) 1) refl)
    where
      by : (b : Bool) → eqb (num w 3) 1 ≡ b → cond b (leb (cond b (num d.offsets (num w 0)) 0) (2 * num w 0 * neighbours_of (bits (num w 4)) (num w 0)))
          (eqb (cond b (num d.offsets (num w 0)) 0) 0) ≡ true
      by true e = le-leb (num d.offsets (num w 0)) (2 * num w 0 * neighbours_of (bits (num w 4)) (num w 0)) (lists-in e).most-links
      by false e = refl

  module _ (g : ℕ → ℕ) (G : (k : ℕ) → k < l.end → g k ≡ parked_word l d k) where
    abbrev y : Lying l w d.offsets
    y = lying w d.offsets

    pub head : HeadIs g l w
    head = head-is g l w (λ k h. G k (omega (arith, head-before-end l y.rises)) ∙ word-head l y.rises d k h)

    -- ---- the areas

    area : (b m : ℕ) (v : List ℕ) (t : ℕ → Bool) → ((i : ℕ) → i < filled_up m → g (b + i) ≡ filling v m i) → (((i : ℕ) → i < m → g (b + i) ≡ num v i) → (i : ℕ) → i < m → t i ≡ true) → AreaFine g b m t
    area b m v t e f = record {
      holds = f (λ i h. e i (omega (arith, filled-most m)) ∙ filling-in v m i h);
      zeros = λ i a h. e i h ∙ filling-out v m i a;
    }

    at-positions : (i : ℕ) → i < filled_up l.cells → g (12 + i) ≡ filling d.positions l.cells i
    at-positions i h = let r = y.rises in G (12 + i) (omega (arith, r.increments-at, r.gains-at, r.affinities-at, r.indices-at, r.weights-at, r.end-at)) ∙ word-positions l r d i h

    at-increments : (i : ℕ) → i < filled_up l.cells → g (l.increments + i) ≡ filling d.increments l.cells i
    at-increments i h = let r = y.rises in G (l.increments + i) (omega (arith, r.gains-at, r.affinities-at, r.indices-at, r.weights-at, r.end-at)) ∙ word-increments l r d i h

    at-gains : (i : ℕ) → i < filled_up l.cells → g (l.gains + i) ≡ filling d.gains l.cells i
    at-gains i h = let r = y.rises in G (l.gains + i) (omega (arith, r.affinities-at, r.indices-at, r.weights-at, r.end-at)) ∙ word-gains l r d i h

    at-affinities : (i : ℕ) → i < filled_up l.held → g (l.affinities + i) ≡ filling (cond l.tree d.offsets d.affinities) l.held i
    at-affinities i h = let r = y.rises in G (l.affinities + i) (omega (arith, r.indices-at, r.weights-at, r.end-at)) ∙ word-affinities l r d i h

    at-indices : (i : ℕ) → i < filled_up l.links → g (l.indices + i) ≡ filling d.indices l.links i
    at-indices i h = let r = y.rises in G (l.indices + i) (omega (arith, r.weights-at, r.end-at)) ∙ word-indices l r d i h

    at-weights : (i : ℕ) → i < filled_up l.links → g (l.weights + i) ≡ filling d.affinities l.links i
    at-weights i h = let r = y.rises in G (l.weights + i) (omega (arith, r.end-at)) ∙ word-weights l r d i h

    pub words_are : WordsAre g l d
    words_are = record {
      positions = λ i h. at-positions i (omega (arith, filled-most l.cells)) ∙ filling-in d.positions l.cells i h;
      increments = λ i h. at-increments i (omega (arith, filled-most l.cells)) ∙ filling-in d.increments l.cells i h;
      gains = λ i h. at-gains i (omega (arith, filled-most l.cells)) ∙ filling-in d.gains l.cells i h;
      affinities = λ i h. at-affinities i (omega (arith, filled-most l.held)) ∙ filling-in (cond l.tree d.offsets d.affinities) l.held i h;
      indices = λ i h. at-indices i (omega (arith, filled-most l.links)) ∙ filling-in d.indices l.links i h;
      weights = λ i h. at-weights i (omega (arith, filled-most l.links)) ∙ filling-in d.affinities l.links i h;
    }

    values : (b : ℕ) (v : List ℕ) → ((i : ℕ) → i < filled_up l.cells → g (b + i) ≡ filling v l.cells i) → calm_all v l.cells ≡ true → AreaFine g b l.cells (λ i. calm (bits (g (b + i))))
    unfolding calm_all
    values b v e c = area b l.cells v (λ i. calm (bits (g (b + i)))) e (λ q i h. ap (λ (x : ℕ). calm (bits x)) (q i h) ∙ every-at (λ i. calm (bits (num v i))) l.cells c i h)

    -- offset i of a Barnes-Hut run
    offset-fits : eqb (num w 3) 1 ≡ true → ((i : ℕ) → i < num w 0 + 1 → g (l.affinities + i) ≡ num d.offsets i) → (i : ℕ) → i < num w 0 + 1 → offset_fits g l i (l.affinities + i) ≡ true
    unfolding offset_fits links_in
    offset-fits e q i h = by_bool _ (eqb i 0)
        (λ z. rw z (eq-eqb (g (l.affinities + i)) 0 (q i h ∙ ap (num d.offsets) (eqb-true i 0 z) ∙ (lists-in e).starts)))
        (λ z.
        let some : 1 ≤ i = omega (arith, eqb-false i 0 z) in
        let before : g (l.affinities + i - 1) ≡ num d.offsets (i - 1) = ap g (less_one l.affinities i some) ∙ q (i - 1) (omega arith) in
        let links : l.links ≡ num d.offsets (num w 0) = rw e at y.links-are in
        rw (
          z,
          before,
          q i h,
          links,
          y.n-is,
          le-leb (num d.offsets (i - 1)) (num d.offsets i) ((lists-in e).rises i some (omega arith)),
          le-leb (num d.offsets i) (num d.offsets (num w 0)) ((lists-in e).below i (omega arith)),
        ) (last i))
      where
        last : (i : ℕ) → (not (eqb i (num w 0)) || eqb (num d.offsets i) (num d.offsets (num w 0))) ≡ true
        last i = by_bool _ (eqb i (num w 0))
            (λ z. or_yes (not (eqb i (num w 0))) (eqb (num d.offsets i) (num d.offsets (num w 0)))
            (eq-eqb (num d.offsets i) (num d.offsets (num w 0)) (ap (num d.offsets) (eqb-true i (num w 0) z))))
            (λ z. rw z)

    held_fits : (i : ℕ) → i < l.held → held_test g l i ≡ true
    held_fits i h = else-true l.tree (offset_fits g l i (l.affinities + i)) (λ t.
        let e : eqb (num w 3) 1 ≡ true = sym y.tree_is ∙ t in
        let s : l.held ≡ num w 0 + 1 = rw e at y.held-is in
        offset-fits e (λ i a. at-affinities i (omega (arith, s, filled-most l.held)) ∙
        ap (λ (b : Bool). filling (cond b d.offsets d.affinities) l.held i) t ∙ filling-in d.offsets l.held i (omega (arith, s))) i
        (omega (arith, s)))

    index-fits : (i : ℕ) → i < l.links → num d.indices i < l.n
    unfolding links_in
    index-fits i h = by_bool _ (eqb (num w 3) 1)
        (λ e. let s : l.links ≡ num d.offsets (num w 0) = rw e at y.links-are in rw y.n-is ((lists-in e).frames i (omega (arith, s))))
        (λ e. let s : l.links ≡ 0 = rw e at y.links-are in absurd (omega (arith, s, h)))

    words-in : WordsFine g l
    unfolding calm_state
    words-in =
        let P = calm_all d.positions l.cells in
        let I = calm_all d.increments l.cells in
        let A = calm_all d.gains l.cells in
        let e = and_left (P && I) A W.calm-all in
        record {
          positions = values 12 d.positions at-positions (and_left P I e);
          increments = values l.increments d.increments at-increments (and_right P I e);
          gains = values l.gains d.gains at-gains (and_right (P && I) A W.calm-all);
          affinities = area l.affinities l.held (cond l.tree d.offsets d.affinities) (held_test g l) at-affinities (λ q. held_fits);
          indices = area l.indices l.links d.indices (λ i. ltb (g (l.indices + i)) l.n) at-indices (λ q i h. ap (λ (x : ℕ). ltb x l.n) (q i h) ∙
              lt-ltb (num d.indices i) l.n (index-fits i h));
          weights = area l.weights l.links d.affinities (λ i. true) at-weights (λ q i h. refl);
        }

    pub file-in : FileFine g
    file-in =
        let h = head in
        let s = settings-in in
        record {
          first-fine = rw (h.method, h.n, h.f, h.c) (first_good (num w 3) (num w 0) (num w 1) (num w 2) (num w 4) (num w 5) (num w 6) (num w 7) (num w 8) method-most s);
          second-fine = rw (h.method, h.n, h.perplexity, h.rate, h.iterations, h.angle, y.tree_is)
              (second-good (num w 3) (num w 0) (num w 1) (num w 2) (num w 4) (num w 5) (num w 6) (num w 7) (num w 8) method-most s);
          third-fine = rw (h.method, h.n, h.perplexity, h.iterations, h.minimum, h.done, h.state, h.links)
              (third-good (num w 3) (num w 0) (num w 4) (num w 6) (num w 8) (num w 10) (num w 9) l.links
              (record { s-most = state-most; state-fits = state-in; links-most = links-in }));
          words = subst (λ (x : Layout). WordsFine g x) (sym (by-head g w d.offsets head)) words-in;
        }

-- ---- the file

-- the bytes that are written
abbrev pub file_of : Stored → List ℕ
file_of d = joined (λ w. little_bytes 8 (parked_word (layout_in d.run d.offsets) d w)) (layout_in d.run d.offsets).end

module _ (d : Stored) where
  abbrev lies : Layout
  lies = layout_in d.run d.offsets

  pub file-long : length (file_of d) ≡ 32 * records_in lies
  file-long = rows_long (parked_word lies d) lies (lying d.run d.offsets).rises

  links-below : InWords d → lies.links < words_most
  unfolding links_in
  links-below e = rw (lying d.run d.offsets).links-are (by (eqb (num d.run 3) 1))
    where
      by : (b : Bool) → cond b (num d.offsets (num d.run 0)) 0 < words_most
      by true = omega (arith, e.offsets (num d.run 0))
      by false = omega arith

  pub file-word : InWords d → (k : ℕ) → k < lies.end → word_in (file_of d) k ≡ parked_word lies d k
  file-word e k h = word-alone (parked_word lies d) lies.end k h (word_below lies d e (links-below e) k)

  module _ (F : List Float) (ns : List Node) (t : List ℕ) (W : Writes d F ns t) (e : InWords d) where
    pub file-layout : layout_by (word_in (file_of d)) ≡ lies
    file-layout = by-head (word_in (file_of d)) d.run d.offsets (head d F ns t W (word_in (file_of d)) (file-word e))

    pub file-due : records_due (file_of d) ≡ records_in lies
    unfolding records_due
    file-due = ap records_in file-layout

    pub file-stands : is_parked (file_of d) ≡ true
    file-stands = fine-parked (file_of d) (file-long ∙ ap (λ (x : ℕ). 32 * x) (sym file-due)) (file-in d F ns t W (word_in (file_of d)) (file-word e))

  -- the front of the target is the file
  pub file-front : (t : List ℕ) → take (32 * records_in lies) (parked_into lies d t) ≡ file_of d
  unfolding parked_into
  file-front t = take_at (file_of d) (drop (lies.end * 8) t) (32 * records_in lies) file-long

-- What is written stands: where k records are written, the first 32·k bytes of the target are a parked run of k records.
module _ (d : Stored) (forces : ℕ) (ns : List Node) (t : List ℕ) (k : ℕ) where
  pub front-is : (park_of d forces ns t).answer ≡ Ok k → first_records k (park_of d forces ns t).target ≡ file_of d
  front-is a =
      let p = parks-all d forces ns t k a in
      ap (λ (x : Parking). take (32 * k) x.target) p.same
      ∙ ap (λ (x : ℕ). take (32 * x) (parked_into (layout_in d.run d.offsets) d t)) (sym p.count)
      ∙ file-front d t

  pub what-is-written-stands : InWords d → (park_of d forces ns t).answer ≡ Ok k → (is_parked (first_records k (park_of d forces ns t).target) ≡ true) ×
      (records_due (first_records k (park_of d forces ns t).target) ≡ k)
  what-is-written-stands e a =
      let p = parks-all d forces ns t k a in
      let F : List Float = replicate forces zero64 in
      (ap is_parked (front-is a) ∙ file-stands d F ns t p.writes e, ap records_due (front-is a) ∙ file-due d F ns t p.writes e ∙ p.count)
