-- What is found of nets, words and drivers is told by the name of a bit that is there.
use Rattle.std.proofs.Common.{◌≡◌, ℕ, zero, suc, ◌<◌, List, [], ◌∷◌, Bool, true, false, map, All, Option, Some, None, refl, arith, sym, ap, subst, ◌∙◌}
use Rattle.std.specs.Prelude.{option_map, if◌then◌else◌}
use Rattle.std.specs.Option.{option_or}
use Rattle.std.proofs.lemmas.List.Elements.{All-head, All-tail}
use Rattle.eq_model.specs.Nets.{total_width, Net}
use Rattle.eq_net.specs.declared.types.Driver.{Driver}
use Rattle.eq_net.specs.Meaning.{if_there}
use Rattle.eq_net.specs.declared.types.NetInfo.{NetInfo}
use Rattle.eq_net.specs.Net.{bits_of, AreWords}
use Rattle.eq_net.specs.Nets.{net_of}
use Rattle.eq_net.specs.Tree.{Tree}
use Rattle.eq_verilog.specs.Trees.{Name}
use Rattle.eq_verilog.specs.BitRefusals.{first_bit_where, two_clocks}
use Rattle.eq_verilog.specs.BitRefusals as refusals
use Rattle.eq_verilog.specs.Designs.{event_bit, size, Flat}
use Rattle.eq_verilog.specs.Firsts.{first_below, first_found}
use Rattle.eq_verilog.specs.Nets.{bit_name}
use Rattle.eq_layout.specs.declared.layout.Layout.{Layout}
use Rattle.eq_layout.specs.Layout.{design_in, IsLaidOut}
use Rattle.eq_marks.specs.Events.{IsThere}
use Rattle.eq_marks.specs.Told.{AreOf}
use Rattle.eq_reads.specs.Graph.{bare}
use Rattle.eq_elab.specs.inner.Elaborating.{IsFound, IsWired}

some_is : (a b : ℕ) → ◌≡◌ {A = Option ℕ} (Some a) (Some b) → a ≡ b
some_is a b e = ap (if_there a (λ x. x)) e

none_some : (a : ℕ) → ◌≡◌ {A = Option ℕ} None (Some a) → ⊥
none_some a e = absurd (cc)

-- ---- what is found is there

bound_or : (o : Option ℕ) (t : Bool) (n b : ℕ) → ((c : ℕ) → o ≡ Some c → c < n) →
    option_or o (if t then Some n else None) ≡ Some b → b < suc n
bound_or (Some m) t n b h e = let lt = h b e in omega (arith, lt)
bound_or None true n b h e = let same = some_is n b e in omega (arith, same)
bound_or None false n b h e = absurd (none_some b e)

first_bound : (n : ℕ) (test : ℕ → Bool) (b : ℕ) → first_below n test ≡ Some b → b < n
first_bound zero test b e = absurd (none_some b e)
first_bound (suc n) test b e = bound_or (first_below n test) (test n) n b (first_bound n test) e

by_event : (n : ℕ) (t : Bool) (e rest : Option ℕ) (b : ℕ) → IsThere n e → (rest ≡ Some b → b < n) →
    option_or (if t then None else e) rest ≡ Some b → b < n
by_event n true e rest b there k is = k is
by_event n false None rest b there k is = k is
by_event n false (Some x) rest b there k is = let same = some_is x b is in omega (arith, there, same)

astray_bound : (n : ℕ) (t : Option ℕ → Bool) (es : List (Option ℕ)) → All (IsThere n) es → (b : ℕ) →
    first_found (λ e. if t e then None else e) es ≡ Some b → b < n
astray_bound n t [] there b is = absurd (none_some b is)
astray_bound n t (e ∷ es) there b is =
    by_event n (t e) e (first_found (λ x. if t x then None else x) es) b (All-head (IsThere n) e es there)
    (astray_bound n t es (All-tail (IsThere n) e es there) b) is

-- the first bit below a bound that passes
pub found_below : (f : Flat) (n : ℕ) (test : ℕ → Bool) (o : Option ℕ) → o ≡ first_below (size f) test → n ≡ size f →
    IsFound f (first_bit_where f test) n o
found_below f n test None is same = ap (option_map (bit_name f.nets)) (sym is)
found_below f n test (Some b) is same =
    (ap (option_map (bit_name f.nets)) (sym is), (let lt = first_bound (size f) test b (sym is) in omega (arith, lt, same)))

-- the bit of the first event that is astray
pub found_astray : (f : Flat) (n : ℕ) (t : Option ℕ → Bool) (es : List (Option ℕ)) (o : Option ℕ) →
    All (IsThere n) es → o ≡ first_found (λ e. if t e then None else e) es →
    o ≡ first_found (λ p. if refusals.is_event f p then None else event_bit p) f.processes →
    IsFound f (two_clocks f) n o
found_astray f n t es None there is same = ap (option_map (bit_name f.nets)) (sym same)
found_astray f n t es (Some b) there is same =
    (ap (option_map (bit_name f.nets)) (sym same), astray_bound n t es there b (sym is))

-- no words are words
pub no_words : (nets : List NetInfo) (words : List Tree) → words ≡ [] → AreWords nets words
no_words nets words none = subst (λ (ws : List Tree). AreWords nets ws) (sym none) (λ k lt. absurd (omega (arith, lt)))

-- nets that are the design's have as many bits
pub bits_same : (nets : List NetInfo) (f : Flat) → map net_of nets ≡ f.nets → bits_of nets ≡ size f
bits_same nets f same = ap (λ (ns : List Net). total_width ns) same

no_name : {A B : Type 0} (g : A → B) (o : Option A) → option_map g o ≡ None → o ≡ None
no_name g None e = refl
no_name g (Some x) e = absurd (cc)

-- no bit is found where none has a name
pub none_below : (f : Flat) (n : ℕ) (test : ℕ → Bool) → first_bit_where f test ≡ None → n ≡ size f →
    first_below n test ≡ None
none_below f n test none same =
    ap (λ k. first_below k test) same ∙ no_name (bit_name f.nets) (first_below (size f) test) none

-- the parts are those of the design
pub are_of : (l : Layout) (top : Name) (words : List Tree) (drivers : List Driver) → IsLaidOut top l →
    IsWired l top words drivers → AreOf (bare l.flat.nets.items words drivers) (design_in l top)
are_of l top words drivers laid wired = record {
  words = wired.words_are;
  size = wired.told.size;
  nets = laid.nets;
  system = wired.told.system;
  copies = wired.told.copies;
}

-- a bit that was found is told by its name, and is there
pub found_some : (f : Flat) (told : Option Name) (bits : ℕ) (o : Option ℕ) (b : ℕ) → o ≡ Some b → IsFound f told bits o →
    (told ≡ Some (bit_name f.nets b)) × (b < bits)
found_some f told bits o b is h = subst (λ (p : Option ℕ). IsFound f told bits p) is h

-- where none was found nothing is told
pub found_none : (f : Flat) (told : Option Name) (bits : ℕ) (o : Option ℕ) → o ≡ None → IsFound f told bits o → told ≡ None
found_none f told bits o is h = subst (λ (p : Option ℕ). IsFound f told bits p) is h
