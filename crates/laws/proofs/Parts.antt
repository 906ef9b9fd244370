-- Laws of areas of which a part is written: the front copied or cleared, or a list put in from its first element up or from its last down. Assumes nothing.
use mathlib.Core.Path.{◌≡◌, refl, sym, ap, ◌∙◌}
use mathlib.Core.List.{List, [], ◌∷◌, ◌++◌, append_assoc}
use Prim.Native.Nat.{ℕ, suc, ◌+◌, ◌-◌, ◌<◌, ◌≤◌}
use native.Mathlib.Omega.{arith}
use native.Mathlib.Numerals.{add-one}
use native.Mathlib.Nat.{le_antisymm}
use lib.ListN.{get_or-append, length, get_or, set, take, drop, replicate, length-set, length-drop, length-append, length-replicate, replicate-append-replicate, take-append-drop}
use lib.Seq.{paste, paste-zero, paste-suc, take-length, get_or-take, get_or-set_same, get_or-set_other, drop-cons, set_at, take-suc, take-take, take-set-le}
use lib.Seq.{get_or-drop, append_snoc, length-take-le, drop-set-lt}
use Rattle.laws.specs.Joined.{pasted, written}

module _ {A : Type 0} where
  -- one more element is copied
  paste-next : (l d : List A) (a t : ℕ) (z : A) → a + t < length l → t < length d → set (pasted l a t d) t (get_or l (a + t) z) ≡ pasted l a (t + 1) d
  paste-next l d a t z h m =
      let w : t < length (drop a l) = rw (length-drop a l) (omega arith) in
      ap (λ (r : List A). set (take t (drop a l) ++ r) t (get_or l (a + t) z)) (drop-cons d t z m)
      ∙ set_at (take t (drop a l)) (get_or d t z) (drop (suc t) d) (get_or l (a + t) z) t (length-take-le t (drop a l) (omega arith))
      ∙ ap (λ (v : A). take t (drop a l) ++ v ∷ drop (suc t) d) (sym (get_or-drop a l t z))
      ∙ sym (append_snoc (take t (drop a l)) (get_or (drop a l) t z) (drop (suc t) d))
      ∙ ap (λ (r : List A). r ++ drop (suc t) d) (sym (take-suc (drop a l) t z w))
      ∙ ap (λ (s : ℕ). take s (drop a l) ++ drop s d) (sym (add-one t))

  -- one more element is cleared
  clear_next : (z : A) (d : List A) (t : ℕ) → t < length d → set (replicate t z ++ drop t d) t z ≡ replicate (t + 1) z ++ drop (t + 1) d
  clear_next z d t m =
      ap (λ (r : List A). set (replicate t z ++ r) t z) (drop-cons d t z m)
      ∙ set_at (replicate t z) (get_or d t z) (drop (suc t) d) z t (length-replicate t z)
      ∙ sym (append_snoc (replicate t z) z (drop (suc t) d))
      ∙ ap (λ (r : List A). r ++ drop (suc t) d) (replicate-append-replicate t 1 z)
      ∙ ap (λ (s : ℕ). replicate (t + 1) z ++ drop s d) (sym (add-one t))

  -- ---- the loops that copy and clear: t places are done

  pub record Copies (from to₀ : List A) (a k t : ℕ) (to : List A) : Type 0 where
    pub within : t ≤ k
    pub size : length to ≡ length to₀
    pub same : to ≡ pasted from a t to₀

  module _ {from to₀ : List A} {a k : ℕ} where
    pub copies-start : Copies from to₀ a k 0 to₀
    copies-start = record { within = omega arith; size = refl; same = refl }

    pub copies-next : {t : ℕ} {to : List A} (z : A) → a + k ≤ length from → k ≤ length to₀ → t < k → Copies from to₀ a k t to → Copies from to₀ a k (t + 1) (set to t (get_or from (a + t) z))
    copies-next {t} {to} z h m l r = record {
      within = omega arith;
      size = length-set to t (get_or from (a + t) z) ∙ r.size;
      same = ap (λ (x : List A). set x t (get_or from (a + t) z)) r.same ∙ paste-next from to₀ a t z (omega arith) (omega arith);
    }

    pub copies-done : {t : ℕ} {to : List A} → k ≤ t → Copies from to₀ a k t to → to ≡ pasted from a k to₀
    copies-done {t} {to} h r = r.same ∙ ap (λ (x : ℕ). pasted from a x to₀) (le_antisymm r.within h)

  pub record Clears (z : A) (l₀ : List A) (n t : ℕ) (l : List A) : Type 0 where
    pub within : t ≤ n
    pub size : length l ≡ length l₀
    pub same : l ≡ replicate t z ++ drop t l₀

  module _ {z : A} {l₀ : List A} {n : ℕ} where
    pub clears-start : Clears z l₀ n 0 l₀
    clears-start = record { within = omega arith; size = refl; same = refl }

    pub clears-next : {t : ℕ} {l : List A} → n ≤ length l₀ → t < n → Clears z l₀ n t l → Clears z l₀ n (t + 1) (set l t z)
    clears-next {t} {l} h m r = record {
      within = omega arith;
      size = length-set l t z ∙ r.size;
      same = ap (λ (x : List A). set x t z) r.same ∙ clear_next z l₀ t (omega arith);
    }

    pub clears-done : {t : ℕ} {l : List A} → n ≤ t → Clears z l₀ n t l → l ≡ replicate n z ++ drop n l₀
    clears-done {t} {l} h r = r.same ∙ ap (λ (x : ℕ). replicate x z ++ drop x l₀) (le_antisymm r.within h)

  pub length-pasted : (l d : List A) (a k : ℕ) → a + k ≤ length l → k ≤ length d → length (pasted l a k d) ≡ length d
  length-pasted l d a k h m =
      length-append (take k (drop a l)) (drop k d)
      ∙ add (length-take-le k (drop a l) (rw (length-drop a l) (omega arith))) (length-drop k d)
    where
      add : {x y : ℕ} → x ≡ k → y ≡ length d - k → x + y ≡ length d
      add e f = omega arith

  pub get_or-pasted : (l d : List A) (a k t : ℕ) (z : A) → t < k → a + k ≤ length l → get_or (pasted l a k d) t z ≡ get_or l (a + t) z
  get_or-pasted l d a k t z h m =
      let e : length (take k (drop a l)) ≡ k = length-take-le k (drop a l) (rw (length-drop a l) (omega arith)) in
      get_or-append (take k (drop a l)) (drop k d) z t (omega arith)
      ∙ get_or-take k (drop a l) t z h ∙ get_or-drop a l t z

  -- an element is put just below the part that is done
  pub drop-put : (l : List A) (q : ℕ) (v : A) → q < length l → drop q (set l q v) ≡ v ∷ drop (q + 1) l
  drop-put l q v h =
      drop-cons (set l q v) q v (rw (length-set l q v) h)
      ∙ ap (λ (x : A). x ∷ drop (suc q) (set l q v)) (get_or-set_same l q v v h)
      ∙ ap (λ (r : List A). v ∷ r) (drop-set-lt (suc q) l q v (omega arith))
      ∙ ap (λ (s : ℕ). v ∷ drop s l) (sym (add-one q))

  -- ---- a list w written from its last element down, so that it ends just below q₀: what is left of it, with what is written, gives the whole

  pub record Ends (d : A) (w : List A) (q₀ : ℕ) (l₀ : List A) (left : List A) (q : ℕ) (l : List A) : Type 0 where
    pub within : q ≤ q₀
    pub size : length l ≡ length l₀
    pub low : take q l ≡ take q l₀
    pub high : (t : ℕ) → q₀ ≤ t → get_or l t d ≡ get_or l₀ t d
    pub same : left ++ drop q l ≡ w ++ drop q₀ l₀

  module _ {d : A} {w : List A} {q₀ : ℕ} {l₀ : List A} where
    pub ends-start : Ends d w q₀ l₀ w q₀ l₀
    ends-start = record { within = omega arith; size = refl; low = refl; high = λ t h. refl; same = refl }

    pub ends_next : {left left' : List A} {q q' : ℕ} {l : List A} (v : A) → left' ≡ left ++ (v ∷ []) → q ≡ q' + 1 → q' < length l → Ends d w q₀ l₀ left' q l → Ends d w q₀ l₀ left q' (set l q' v)
    ends_next {left} {left'} {q} {q'} {l} v e u h r = record {
      within = omega (arith, r.within);
      size = length-set l q' v ∙ r.size;
      low = take-set-le q' l q' v (omega arith) ∙ sym (take-take q' q l (omega arith)) ∙ ap (take q') r.low ∙ take-take q' q l₀ (omega arith);
      high = λ t m. get_or-set_other l q' t v d (λ x. omega (arith, r.within)) ∙ r.high t m;
      same =
          ap (λ (y : List A). left ++ y) (drop-put l q' v h ∙ ap (λ (s : ℕ). v ∷ drop s l) (sym u))
          ∙ sym (append_assoc left (v ∷ []) (drop q l)) ∙ ap (λ (y : List A). y ++ drop q l) (sym e) ∙ r.same;
    }

    -- below q nothing is written yet
    pub ends_low : {left : List A} {q : ℕ} {l : List A} → Ends d w q₀ l₀ left q l → (t : ℕ) → t < q → get_or l t d ≡ get_or l₀ t d
    ends_low {left} {q} {l} r t h = sym (get_or-take q l t d h) ∙ ap (λ (y : List A). get_or y t d) r.low ∙ get_or-take q l₀ t d h

    pub ends-done : {left : List A} {q : ℕ} {l : List A} → left ≡ [] → Ends d w q₀ l₀ left q l → l ≡ take q l₀ ++ (w ++ drop q₀ l₀)
    ends-done {left} {q} {l} e r = sym (take-append-drop q l) ∙ ap (λ (y : List A). y ++ drop q l) r.low ∙ ap (λ (y : List A). take q l₀ ++ y) (ap (λ (y : List A). y ++ drop q l) (sym e) ∙ r.same)

  -- ---- the loop that writes a list from its first element up: i elements of w stand from place a on

  pub record Spells (w l₀ : List A) (a i : ℕ) (l : List A) : Type 0 where
    pub within : i ≤ length w
    pub size : length l ≡ length l₀
    pub same : l ≡ paste l₀ a w i

  module _ {w l₀ : List A} {a : ℕ} where
    pub spells-start : Spells w l₀ a 0 l₀
    spells-start = record { within = omega arith; size = refl; same = paste-zero l₀ a w }

    pub spells-next : {i : ℕ} {l : List A} (z : A) → a + length w ≤ length l₀ → i < length w → Spells w l₀ a i l → Spells w l₀ a (i + 1) (set l (a + i) (get_or w i z))
    spells-next {i} {l} z h m r = record {
      within = omega arith;
      size = length-set l (a + i) (get_or w i z) ∙ r.size;
      same =
          ap (λ (x : List A). set x (a + i) (get_or w i z)) r.same
          ∙ paste-suc l₀ a w i z (omega arith) m
          ∙ ap (paste l₀ a w) (sym (add-one i));
    }

    pub spells-done : {i : ℕ} {l : List A} → length w ≤ i → Spells w l₀ a i l → l ≡ written w a l₀
    spells-done {i} {l} h r =
        r.same
        ∙ ap (paste l₀ a w) (le_antisymm r.within h)
        ∙ ap (λ (x : List A). take a l₀ ++ x ++ drop (a + length w) l₀) (take-length w)

  -- ---- an area whose first n places are scratch

  pub record Scratch (n : ℕ) (l₀ l : List A) : Type 0 where
    pub size : length l ≡ length l₀
    pub tail : drop n l ≡ drop n l₀

  pub scratch-start : {n : ℕ} {l₀ : List A} → Scratch n l₀ l₀
  scratch-start = record { size = refl; tail = refl }

  -- all of them are cleared
  pub scratch-clear : {n : ℕ} {l₀ l l' : List A} (z : A) → l' ≡ replicate n z ++ drop n l → Scratch n l₀ l → l' ≡ replicate n z ++ drop n l₀
  scratch-clear {n} {l₀} {l} z e s = e ∙ ap (λ (x : List A). replicate n z ++ x) s.tail
