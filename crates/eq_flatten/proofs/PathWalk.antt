-- One step of the walk through the instances: what was found grows at its end, and so says the same of what it had.
use Rattle.std.proofs.Common.{◌≡◌, ℕ, zero, suc, ◌-◌, ◌<◌, List, [], ◌∷◌, ◌++◌, map, length, Option, Some, sym, ap, ◌∙◌, arith, subst}
use Rattle.std.specs.Prelude.{All}
use Rattle.std.proofs.lemmas.List.{map-append, append_assoc, append-nil, get_or_append_left, length-append, length-map}
use Rattle.std.proofs.lemmas.List.Elements.{All-append}
use Rattle.std.proofs.Math.Seq.{get_or-append_seam}
use Rattle.eq_net.specs.Meaning.{if_there}
use Rattle.eq_verilog.specs.Trees.{Name, ModuleTree, module_tree}
use Rattle.eq_verilog.specs.Hierarchy.{Path, module_named, paths, paths_from}
use Rattle.eq_flatten.specs.declared.paths.Path.{Path as PathValue}
use Rattle.eq_flatten.specs.declared.paths.Paths.{Paths}
use Rattle.eq_flatten.specs.declared.paths.Pending.{Pending}
use Rattle.eq_flatten.specs.declared.paths.Link.{Link as LinkValue}
use Rattle.eq_flatten.specs.Paths.{Link, end_of, links_from, path_of, path_at, top_path, link_of, begun, unfolded, AreWithin, IsPlaced, IsPath, IsEntered, IsWalk, HasPaths, nowhere}
use Rattle.eq_flatten.proofs.PathLemmas.{on_top, unfolded_append, within_before, within_more}

-- a path that was there stays where it was
pub grown_at : (ps more : List Path) (k : ℕ) → k < length ps → path_at (ps ++ more) k ≡ path_at ps k
grown_at ps more k h = get_or_append_left ps more nowhere k h

-- a path behind others
pub last_at : (ps : List Path) (q : Path) (more : List Path) → path_at ((ps ++ q ∷ []) ++ more) (length ps) ≡ q
last_at ps q more =
    ap (λ (xs : List Path). path_at xs (length ps)) (append_assoc ps (q ∷ []) more)
    ∙ get_or-append_seam ps q more nowhere

pub link_grown : (ps more : List Path) (l : LinkValue) → l.within < length ps → link_of (ps ++ more) l ≡ link_of ps l
link_grown ps more l h =
    ap (λ (p : Path). record { within = p; written = (link_of ps l).written; of = (link_of ps l).of })
    (grown_at ps more l.within h)

module _ (all : List ModuleTree) (k : ℕ) (p : Path) where
  -- the end of a walk's step
  pub walked : (old new : Paths) (next : Pending) (before rest stack : List Pending) → before ≡ rest ++ next ∷ []
      → IsWalk all k p old before → IsEntered all next old new rest stack → IsPlaced all next.link.of
      → AreWithin all (length old.paths.items) rest
      → IsWalk all k p new stack
  walked old new next before rest stack popped walk entered there within =
      let news : List Path = map path_of new.paths.items in
      let olds : List Path = map path_of old.paths.items in
      record {
        goes_on = λ more.
            let ps : List Path = news ++ more in
            let q : Path = end_of (link_of ps next.link) in
            let same : ps ≡ olds ++ q ∷ more =
            ap (λ (xs : List Path). xs ++ more) (entered.ends more) ∙ append_assoc olds (q ∷ []) more in
            let front : List Link = map (link_of ps) old.links.items in
            let inner : List Link = links_from all next.left q in
            let others : List Link = unfolded all ps rest in
            subst (λ (xs : List Path). links_from all k p ≡ map (link_of xs) old.links.items ++ unfolded all xs before)
            (sym same) (walk.goes_on (q ∷ more))
            ∙ ap (λ (xs : List Pending). front ++ unfolded all ps xs) popped
            ∙ ap (λ (ls : List Link). front ++ ls) (unfolded_append all ps rest (next ∷ []))
            ∙ sym (append_assoc front (link_of ps next.link ∷ []) (inner ++ others))
            ∙ ap (λ (ls : List Link). ls ++ (inner ++ others))
            (sym (map-append (link_of ps) old.links.items (next.link ∷ [])))
            ∙ ap (λ (ls : List LinkValue). map (link_of ps) ls ++ (inner ++ others)) (sym entered.links)
            ∙ ap (λ (ls : List Link). map (link_of ps) new.links.items ++ ls) (sym (entered.goes_on more));
        ends = λ more.
            let ps : List Path = news ++ more in
            let q : Path = end_of (link_of ps next.link) in
            let same : ps ≡ olds ++ q ∷ more =
            ap (λ (xs : List Path). xs ++ more) (entered.ends more) ∙ append_assoc olds (q ∷ []) more in
            let front : List Path = map end_of (map (link_of ps) old.links.items) in
            entered.ends more
            ∙ ap (λ (xs : List Path). xs ++ q ∷ [])
            (subst (λ (xs : List Path). olds ≡ p ∷ map end_of (map (link_of xs) old.links.items)) (sym same)
            (walk.ends (q ∷ more)))
            ∙ ap (λ (xs : List Path). p ∷ xs)
            (sym (map-append end_of (map (link_of ps) old.links.items) (link_of ps next.link ∷ []))
            ∙ ap (λ (ls : List Link). map end_of ls)
            (sym (map-append (link_of ps) old.links.items (next.link ∷ []))
            ∙ ap (λ (ls : List LinkValue). map (link_of ps) ls) (sym entered.links)));
        within = entered.within within;
        placed = entered.placed there walk.placed;
      }

all_one : (all : List ModuleTree) (q : PathValue) → IsPath all q → All (IsPath all) (q ∷ [])
all_one all q h zero d inside = h
all_one all q h (suc k) d inside = absurd (omega (arith, inside))

some_module : (all : List ModuleTree) (top : Name) (m : ModuleTree) → module_named all top ≡ Some m → 0 < length all
some_module [] top m there = absurd (cc)
some_module (x ∷ xs) top m there = omega arith

module _ (all : List ModuleTree) where
  -- the path of a link stays the same
  pub entered_end : (olds : List Path) (q : Path) (more : List Path) (l : LinkValue) → l.within < length olds →
      end_of (link_of ((olds ++ q ∷ []) ++ more) l) ≡ end_of (link_of olds l)
  entered_end olds q more l bound =
      ap (λ (x : Link). end_of x)
      (ap (λ (xs : List Path). link_of xs l) (append_assoc olds (q ∷ []) more) ∙ link_grown olds (q ∷ more) l bound)

  -- those in the instance that was come to are on top
  pub entered_on : (olds : List Path) (q : Path) (more : List Path) (next : Pending) (old new : List Pending)
      → next.link.within < length olds
      → q ≡ end_of (link_of olds next.link)
      → ((ps : List Path) → (path_at ps (length olds)).of ≡ module_tree next.link.of.module.now →
      unfolded all ps new ≡ links_from all next.left (path_at ps (length olds)) ++ unfolded all ps old)
      → unfolded all ((olds ++ q ∷ []) ++ more) new
      ≡ links_from all next.left (end_of (link_of ((olds ++ q ∷ []) ++ more) next.link))
      ++ unfolded all ((olds ++ q ∷ []) ++ more) old
  entered_on olds q more next old new bound is below =
      let ps : List Path = (olds ++ q ∷ []) ++ more in
      let here : path_at ps (length olds) ≡ q = last_at olds q more in
      let grown : end_of (link_of ps next.link) ≡ end_of (link_of olds next.link) = entered_end olds q more next.link bound in
      below ps (ap (λ (x : Path). x.of) (here ∙ is))
      ∙ ap (λ (x : Path). links_from all next.left x ++ unfolded all ps old) (here ∙ is ∙ sym grown)

  -- an instance is come to
  pub entered : (old new : Paths) (next : Pending) (rest stack : List Pending) (q : PathValue)
      → new.paths.items ≡ old.paths.items ++ q ∷ []
      → path_of q ≡ end_of (link_of (map path_of old.paths.items) next.link)
      → next.link.within < length old.paths.items
      → new.links.items ≡ old.links.items ++ next.link ∷ []
      → ((ps : List Path) → (path_at ps (length old.paths.items)).of ≡ module_tree next.link.of.module.now →
      unfolded all ps stack ≡ links_from all next.left (path_at ps (length old.paths.items)) ++ unfolded all ps rest)
      → ((n : ℕ) → length old.paths.items < n → AreWithin all n rest → AreWithin all n stack)
      → (IsPlaced all next.link.of → All (IsPath all) old.paths.items → IsPath all q)
      → IsEntered all next old new rest stack
  entered old new next rest stack q pushed is bound links below kept placed =
      let olds : List Path = map path_of old.paths.items in
      let size : length olds ≡ length old.paths.items = length-map old.paths.items path_of in
      let news : map path_of new.paths.items ≡ olds ++ path_of q ∷ [] =
      ap (λ (xs : List PathValue). map path_of xs) pushed ∙ map-append path_of old.paths.items (q ∷ []) in
      let inside : next.link.within < length olds = omega (arith, bound, size) in
      record {
        ends = λ more.
            subst (λ (ps : List Path). ps ≡ olds ++ end_of (link_of (ps ++ more) next.link) ∷ []) (sym news)
            (ap (λ (x : Path). olds ++ x ∷ []) (is ∙ sym (entered_end olds (path_of q) more next.link inside)));
        links = links;
        goes_on = λ more.
            subst (λ (ps : List Path). unfolded all (ps ++ more) stack ≡
            links_from all next.left (end_of (link_of (ps ++ more) next.link)) ++ unfolded all (ps ++ more) rest)
            (sym news)
            (entered_on olds (path_of q) more next rest stack inside is
            (subst (λ (n : ℕ). (ps : List Path) → (path_at ps n).of ≡ module_tree next.link.of.module.now →
            unfolded all ps stack ≡ links_from all next.left (path_at ps n) ++ unfolded all ps rest)
            (sym size) below));
        within = λ before.
            let grown = ap (λ (xs : List PathValue). length xs) pushed ∙ length-append old.paths.items (q ∷ []) in
            kept (length new.paths.items) (omega (arith, grown))
            (within_more all (length old.paths.items) (length new.paths.items) (omega (arith, grown)) rest before);
        placed = λ there before.
            subst (λ (xs : List PathValue). All (IsPath all) xs) (sym pushed)
            (All-append (IsPath all) old.paths.items (q ∷ []) before (all_one all q (placed there before)));
      }

  -- what is known of an instance that is taken from the stack, and of the others
  pub record IsPopped (n : ℕ) (next : Pending) (rest : List Pending) : Type 0 where
    pub bound : next.link.within < n
    pub placed : IsPlaced all next.link.of
    pub others : AreWithin all n rest

  pub popped_within : (n : ℕ) (next : Pending) (stack rest : List Pending) → stack ≡ rest ++ next ∷ [] →
      AreWithin all n stack → IsPopped n next rest
  popped_within n next stack rest popped within =
      let parts = within_before all n rest (next ∷ []) (subst (λ (xs : List Pending). AreWithin all n xs) popped within) in
      record { bound = parts.1.0; placed = parts.1.1.0; others = parts.0 }

  -- fewer are left
  pub less_left : (k : ℕ) (p : Path) (old new : Paths) (next : Pending) (stack rest : List Pending)
      → stack ≡ rest ++ next ∷ [] → IsWalk all k p old stack → new.links.items ≡ old.links.items ++ next.link ∷ []
      → length (links_from all k p) - length new.links.items < length (links_from all k p) - length old.links.items
  less_left k p old new next stack rest popped walk links =
      let ps : List Path = map path_of old.paths.items ++ [] in
      let front : List Link = map (link_of ps) old.links.items in
      let whole = ap (λ (ls : List Link). length ls) (walk.goes_on []) in
      let parts = length-append front (unfolded all ps stack) in
      let same = length-map old.links.items (link_of ps) in
      let top = ap (λ (xs : List Pending). length (unfolded all ps xs)) popped
      ∙ ap (λ (ls : List Link). length ls) (unfolded_append all ps rest (next ∷ []))
      ∙ length-append (begun all ps next) (unfolded all ps rest) in
      let grown = ap (λ (ls : List LinkValue). length ls) links ∙ length-append old.links.items (next.link ∷ []) in
      omega (arith, whole, parts, same, top, grown)

  -- at the end all are found
  pub all_found : (k : ℕ) (p : Path) (found : Paths) (stack : List Pending) → stack ≡ [] → length all - 1 ≡ k →
      IsWalk all k p found stack → HasPaths all p found
  all_found k p found stack none most walk =
      let ps : List Path = map path_of found.paths.items in
      record {
        links =
            subst (λ (n : ℕ). map (link_of ps) found.links.items ≡ links_from all n p) (sym most)
            (sym (subst (λ (xs : List Path). links_from all k p ≡ map (link_of xs) found.links.items)
            (append-nil ps)
            (walk.goes_on []
            ∙ ap (λ (xs : List Pending). map (link_of (ps ++ [])) found.links.items ++ unfolded all (ps ++ []) xs) none
            ∙ append-nil (map (link_of (ps ++ [])) found.links.items))));
        ends = subst (λ (xs : List Path). ps ≡ p ∷ map end_of (map (link_of xs) found.links.items)) (append-nil ps)
            (walk.ends []);
        placed = walk.placed;
      }

  -- and they are the paths of the design
  pub paths_are : (top : Name) (m : ModuleTree) (found : Paths) → module_named all top ≡ Some m →
      HasPaths all (top_path m) found → map path_of found.paths.items ≡ paths all top
  paths_are top m found there has =
      let some = some_module all top m there in
      let size : length all ≡ suc (length all - 1) = omega (arith, some) in
      has.ends
      ∙ ap (λ (ls : List Link). top_path m ∷ map end_of ls) has.links
      ∙ sym (on_top all (length all - 1) (top_path m))
      ∙ ap (λ (n : ℕ). paths_from all n [] m) (sym size)
      ∙ sym (ap (λ (o : Option ModuleTree). if_there [] (paths_from all (length all) []) o) there)
