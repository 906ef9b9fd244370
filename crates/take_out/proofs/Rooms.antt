-- What the tests have shown, as the functions that pack ask for it. Assumes nothing.
use mathlib.Core.Path.{◌≡◌, refl, sym, ap, subst, ◌∙◌}
use mathlib.Core.List.{List, ◌++◌}
use Prim.Native.Nat.{ℕ, ◌+◌, ◌*◌, ◌<◌, ◌≤◌}
use lib.ListN.{length, take, drop}
use lib.Seq.{take_at}
use lib.Ieee.{Float}
use borrow.Author.Tests.{eq-eqb, lt-leb, le-leb}
use Rattle.laws.specs.Area.{zero64, zeros8}
use Rattle.laws.specs.Loops.{loop}
use Rattle.run_record.specs.declared.Settings.{Settings}
use Rattle.run_record.specs.Record.{settings_fault}
use Rattle.take_gone.specs.Gone.{survivors, Climbs}
use Rattle.take_gone.proofs.Left.{survivors-climb}
use Rattle.areas.specs.Filled.{filled}
use Rattle.take_rows.specs.Rows.{shrunk, kept_rows, centred_rows, Staying, Means}
use Rattle.take_rows.proofs.Survive.{survivors-kept}
use Rattle.take_calm.specs.CalmLeft.{mean_at}
use Rattle.take_calm.proofs.Over.{means-written}
use Rattle.take_out.specs.TakeOut.{Holdings, holdings, lent_positions, affinities_after, indices_after, offsets_after, packed_areas, ValuesRoom, LinksRoom, PackRoom}

-- ---- the positions that count as lent

module _ (s : Settings) (p t q : ℕ) (f : settings_fault s ≡ 0) where
  pub lent-no-table : t < s.n * s.f → 0 ≡ lent_positions s p t q
  unfolding lent_positions
  lent-no-table h = rw (eq-eqb (settings_fault s) 0 f, lt-leb (s.n * s.f) t h)

  pub lent-no-old : s.n * s.f ≤ t → q < s.n → 0 ≡ lent_positions s p t q
  unfolding lent_positions
  lent-no-old h l = rw (eq-eqb (settings_fault s) 0 f, le-leb (s.n * s.f) t h, lt-leb s.n q l)

  pub lent-all : s.n * s.f ≤ t → s.n ≤ q → p ≡ lent_positions s p t q
  unfolding lent_positions
  lent-all h l = rw (eq-eqb (settings_fault s) 0 f, le-leb (s.n * s.f) t h, le-leb s.n q l)

-- ---- areas with a row for each frame

module _ {s : Settings} {g keep : List ℕ} {p i v t : ℕ} (r : ValuesRoom s g keep p i v t) where
  pub values-kept : Staying keep s.n
  values-kept = subst (λ (k : List ℕ). Staying k s.n) (sym r.values-keep) (survivors-kept g s.n)

  pub values-means : (y means : List Float) → means ≡ loop (mean_at (survivors g s.n) s.c y) s.c 0 zeros8 → Means keep s.c y means
  values-means y means e = subst (λ (k : List ℕ). Means k s.c y means) (sym r.values-keep) (means-written (survivors g s.n) s.c y zeros8 means refl r.values-good.c-most e)

-- ---- all areas

module _ {s : Settings} {g : List ℕ} {h : Holdings} (r : PackRoom s g h) where
  -- the old places that have been written, m of them, are the survivors
  pub front-survives : (old : List ℕ) (m : ℕ) → m ≡ length (survivors g s.n) → old ≡ survivors g s.n ++ drop (length (survivors g s.n)) h.old → take m old ≡ survivors g s.n
  front-survives old m e o = ap (take m) o ∙ take_at (survivors g s.n) (drop (length (survivors g s.n)) h.old) m (sym e)

  pub pack-values-room : (keep : List ℕ) → keep ≡ survivors g s.n → ValuesRoom s g keep (length h.positions) (length h.increments) (length h.gains) (length h.table)
  pack-values-room keep e = record {
    values-good = r.pack-good;
    values-gone = r.pack-gone;
    values-keep = e;
    p-long = r.pack-positions;
    i-long = r.pack-increments;
    v-long = r.pack-gains;
    t-long = r.pack-table;
  }

  pub pack-links-room : (keep : List ℕ) → keep ≡ survivors g s.n → LinksRoom s keep (length h.affinities) (length h.indices) h.offsets
  pack-links-room keep e = record {
    links-most-frames = r.pack-good.n-most;
    links-climb = subst Climbs (sym e) (survivors-climb g s.n);
    links-kept = subst (λ (k : List ℕ). Staying k s.n) (sym e) (survivors-kept g s.n);
    links-lie = r.pack-lists;
    links-square = r.pack-square;
  }

  -- every area has been packed by the places in keep, and these are the survivors
  pub packed-told : (keep old : List ℕ) → keep ≡ survivors g s.n → old ≡ survivors g s.n ++ drop (length (survivors g s.n)) h.old
      → (p : List Float) (i v t : List ℕ) (f : List Float) (a x o : List ℕ)
      → (p ≡ shrunk zero64 (s.n * s.c) (centred_rows keep s.c h.positions) h.positions)
      × (i ≡ shrunk 0 (s.n * s.c) (kept_rows keep s.c h.increments) h.increments)
      × (v ≡ shrunk 0 (s.n * s.c) (kept_rows keep s.c h.gains) h.gains)
      × (t ≡ shrunk 0 (s.n * s.f) (kept_rows keep s.f h.table) h.table)
      → (a ≡ affinities_after s keep h.affinities h.indices h.offsets) × (x ≡ indices_after s keep h.indices h.offsets) × (o ≡ offsets_after s keep h.indices h.offsets)
      → f ≡ filled zero64 (s.n * (2 * s.c + 1)) h.forces
      → holdings p i v a x o f t old ≡ packed_areas s (survivors g s.n) h
  unfolding packed_areas
  packed-told keep old k q p i v t f a x o values links forces =
      rw (values.0, values.1, values.2, values.3, links.0, links.1, links.2, forces, q, k)
