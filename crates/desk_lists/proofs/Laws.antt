-- What the call that writes lists cites: what its test has shown, and what it tells in each case. Assumes nothing.
use Rattle.std.specs.Prelude.{Result}
use mathlib.Core.Path.{◌≡◌, sym, ap, ◌∙◌}
use mathlib.Core.List.{List}
use mathlib.Core.Bool.{Bool, false}
use Prim.Native.Nat.{ℕ, ◌≤◌}
use native.Mathlib.Omega.{arith}
use lib.Dec.{eqb}
use lib.ListN.{length, set}
use borrow.Author.Tests.{eqb-false, eq-eqb, ne_eqb}
use Rattle.tree_node.specs.declared.Node.{Node}
use Rattle.record_words.specs.RecordWords.{Worded, worded}
use Rattle.parked.specs.Parked.{Stored}
use Rattle.partner_write.specs.declared.ListsFault.{ListsFault}
use Rattle.partner_write.specs.Write.{Listing, listing, written_lists, lists_number}
use Rattle.desk_lists.specs.HostLists.{lists_told, host_listed, listing_told, host_lists}

module _ (d : Stored) (forces : ℕ) (ns : List Node) (t a : List ℕ) where
  pub mute-lists-said : length a ≡ 0 → host_listed 12 t a ≡ host_lists d forces ns t a
  unfolding host_lists
  mute-lists-said e = rw (eq-eqb (length a) 0 e)

  pub listing-room : (b : Bool) → b ≡ eqb (length a) 0 → b ≡ false → 1 ≤ length a
  listing-room b q y = let n = eqb-false (length a) 0 (sym q ∙ y) in omega (arith, n)

  pub listing-said : (length a ≡ 0 → ⊥) → (p : Result ℕ ListsFault) (t' : List ℕ) → listing p t' ≡ written_lists d forces ns t → (k : ℕ) (a' : List ℕ) →
      worded k a' ≡ worded (lists_number p) (set a 0 (lists_told p)) → host_listed k t' a' ≡ host_lists d forces ns t a
  unfolding host_lists
  listing-said h p t' ep k a' e = rw (ne_eqb (length a) 0 h) (ap (λ (w : Worded). host_listed w.number t' w.words) e ∙ ap (λ (x : Listing). listing_told x a) ep)
