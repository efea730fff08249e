-- A table begins with the bits of a word that reads the keys: each stands for itself.
use Rattle.std.proofs.Common.{◌≡◌, ℕ, ◌<◌, false, List, [], ◌∷◌, ◌++◌, length, length-append, slice_get, sum_by, Some, refl, arith, sym, ap, subst, ◌∙◌}
use Rattle.std.proofs.lemmas.Option.{same_Some, slice_get_within}
use Rattle.eq_names.specs.declared.BitName.{BitName}
use Rattle.eq_net.specs.declared.types.NetInfo.{NetInfo}
use Rattle.eq_net.specs.declared.types.WordBit.{WordBit}
use Rattle.eq_net.specs.Tree as tree
use Rattle.eq_net.specs.Tree.{Tree}
use Rattle.eq_net.specs.Meaning.{all_reads_of, bit_of, cost_of, if_there, reads_of, width}
use Rattle.eq_net.specs.Net.{AreWords, HasBit, HasWordBit, IsWord, number_of}
use Rattle.eq_verilog.specs.Trees.{StmtTree}
use Rattle.eq_verilog.specs.Scopes.{Scope}
use Rattle.eq_verilog.specs.Costs.{bits_set, different}
use Rattle.eq_verilog.specs.Registers.{itself}
use Rattle.eq_registers.specs.declared.keys.Keys.{Keys}
use Rattle.eq_registers.specs.Collecting.{IsCollected, IsKeyed}
use Rattle.eq_registers.specs.Following.{HasNext}
use Rattle.eq_registers.specs.Running.{HasRun}
use Rattle.eq_registers.specs.Standing.{AreNext, AreThere, StandsFor}
use Rattle.eq_registers.specs.inner.Writing.{entry}
use Rattle.eq_registers.specs.inner.Choosing.{IsWhole}
use Rattle.eq_registers.proofs.Counted.{few_keys}
use Rattle.eq_registers.proofs.Placed.{all_places, some_at}
use Rattle.eq_registers.proofs.Grown.{added_cost, added_word, keeps_more, keeps_twice, row_added, words_more}
use Rattle.eq_registers.proofs.Stood.{same_lists}

module _ (nets : List NetInfo) (words : List Tree) (keys : Keys) (table : List WordBit) (keyed : IsKeyed nets keys)
    (whole : IsWhole (length words) table (length keys.names)) where
  abbrev Read : Tree
  Read = tree.read keys.names

  abbrev Begun : List Tree
  Begun = words ++ Read ∷ []

  read_word : IsWord nets words (length words) Read
  read_word = all_places (HasBit nets) keys.names (λ p n e. (keyed.named p n e).0)

  pub begun_words : AreWords nets words → AreWords nets Begun
  begun_words are = words_more nets words Read are read_word

  pub begun_size : length table ≡ length keys.bits
  begun_size = whole.size ∙ keyed.size

  begun_at : (p : ℕ) (w : WordBit) → slice_get table p ≡ Some w → w ≡ entry (length words) p
  begun_at p w here = whole.at p w here

  entry_there : (p : ℕ) → p < length keys.names → HasWordBit Begun (length Begun) (entry (length words) p)
  entry_there p inside = (
    (let e = length-append words (Read ∷ []) in omega (arith, e)),
    subst (λ (t : Tree). p < width t) (sym (added_word words Read)) inside,
  )

  pub begun_there : AreThere Begun table
  begun_there p w here =
      let inside = slice_get_within table p w here in
      let size = whole.size in
      subst (λ (i : WordBit). HasWordBit Begun (length Begun) i) (sym (begun_at p w here))
      (entry_there p (omega (arith, inside, size)))

  named_at : (p b : ℕ) (n : BitName) → slice_get keys.names p ≡ Some n → slice_get keys.bits p ≡ Some b →
      number_of nets n ≡ b
  named_at p b n name bit = same_Some (number_of nets n) b (sym (keyed.named p n name).1 ∙ bit)

  itself_stands : (p b : ℕ) (n : BitName) → slice_get keys.names p ≡ Some n → slice_get keys.bits p ≡ Some b →
      StandsFor nets Begun (entry (length words) p) (itself b)
  itself_stands p b n name bit = record {
    there = entry_there p (slice_get_within keys.names p n name);
    same = record {
      reads = λ c. same_lists (all_reads_of (number_of nets) Begun (length words) p) (b ∷ [])
          (row_added [] (reads_of (number_of nets)) words Read p
          ∙ ap (λ o. if_there [] (λ (m : BitName). number_of nets m ∷ []) o) name
          ∙ ap (λ (x : ℕ). x ∷ []) (named_at p b n name bit)) c;
      value = λ v.
          row_added false (bit_of v (number_of nets)) words Read p
          ∙ ap (λ o. if_there false (λ (m : BitName). v (number_of nets m)) o) name
          ∙ ap (λ (x : ℕ). v x) (named_at p b n name bit);
    };
  }

  pub begun_next : AreNext nets Begun keys.bits table itself
  begun_next p b w key here =
      let inside = slice_get_within table p w here in
      let size = whole.size in
      let name = some_at keys.names p (omega (arith, inside, size)) in
      subst (λ (i : WordBit). StandsFor nets Begun i (itself b)) (sym (begun_at p w here))
      (itself_stands p b name.0 name.1 key)

  pub begun_cost : sum_by cost_of Begun ≡ sum_by cost_of words
  begun_cost = (let e = added_cost words Read in let o : cost_of Read ≡ 0 = refl in omega (arith, e, o))

pub next_made : (nets : List NetInfo) (s : Scope) (body : StmtTree) (keys : Keys) (old begun new : List Tree)
    (table after : List WordBit) → IsCollected nets s body keys → begun ≡ old ++ tree.read keys.names ∷ [] →
    IsWhole (length old) table (length keys.names) → HasRun nets s body keys.bits begun new table after →
    HasNext nets s body old new (record { keys = keys; table = after })
next_made nets s body keys old begun new table after collected is whole ran =
    let keyed = collected.keyed in
    let now = old ++ tree.read keys.names ∷ [] in
    let run_on : HasRun nets s body keys.bits now new table after =
    subst (λ (ws : List Tree). HasRun nets s body keys.bits ws new table after) is ran in
    record {
      extends = keeps_twice old now new (keeps_more old (tree.read keys.names)) run_on.extends;
      words = run_on.words;
      collected = collected;
      size = run_on.size ∙ begun_size nets old keys table keyed whole;
      there = run_on.there;
      values = run_on.next itself (begun_next nets old keys table keyed whole);
      costs =
          (let a = run_on.costs (different (bits_set s body)) (few_keys nets s body keys collected) in
          let b = begun_cost nets old keys table keyed whole in
          omega (arith, a, b));
    }
