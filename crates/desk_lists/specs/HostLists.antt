-- Writing the neighbour lists of a run, with record and answer as plain words. Definitions only.
-- a are the answer's words: word 0 tells the records written, or, refused, the place that comes with the number, 0 where none does.
use Rattle.std.specs.Prelude.{List, cond, ℕ, eqb, length, set, Result, Ok, Err}
use Rattle.tree_node.specs.declared.Node.{Node}
use Rattle.fault_words.specs.FaultWords.{fault_value}
use Rattle.parked.specs.Parked.{Stored}
use Rattle.partner_write.specs.declared.ListsFault.{ListsFault}
use Rattle.partner_write.specs.declared.ListsFault.TheVariants.{NoLists, Short, Bad}
use Rattle.partner_write.specs.Write.{Listing, written_lists, lists_number}

abbrev pub lists_told : Result ℕ ListsFault → ℕ
lists_told (Ok k) = k
lists_told (Err NoLists) = 0
lists_told (Err Short) = 0
lists_told (Err (Bad f)) = fault_value f

-- the number, and target and answer as they are left
pub record HostListed : Type 0 where
  pub number : ℕ
  pub target : List ℕ
  pub answer : List ℕ

abbrev pub host_listed : ℕ → List ℕ → List ℕ → HostListed
host_listed k t a = record { number = k; target = t; answer = a }

abbrev pub listing_told : Listing → List ℕ → HostListed
listing_told p a = host_listed (lists_number p.answer) p.target (set a 0 (lists_told p.answer))

-- an answer without a word: 12, and nothing can be told
unfoldable pub host_lists : Stored → ℕ → List Node → List ℕ → List ℕ → HostListed
host_lists d forces ns t a = cond (eqb (length a) 0) (host_listed 12 t a) (listing_told (written_lists d forces ns t) a)
