-- Where the bits of a module's nets begin.
use Rattle.std.proofs.Common.{◌≡◌, ℕ, zero, suc, ◌+◌, ◌<◌, ◌≤◌, ◌^◌, List, [], ◌∷◌, ◌++◌, Bool, true, false, cond, Option, Some, None, length, get_or, take, map, refl, sym, ap, ◌∙◌, arith}
use Rattle.std.specs.Prelude.{slice_get, unwrap_or}
use Rattle.std.specs.Str.{bytes_eq}
use Rattle.std.proofs.lemmas.List.{take_more}
use Rattle.eq_names.specs.Tables.{number_of}
use Rattle.eq_verilog.specs.Trees.{Name, ModuleTree}
use Rattle.eq_verilog.specs.Declarations.{nets_in}
use Rattle.eq_verilog.specs.Nets.{alone, net_at, nets_at, offset}
use Rattle.eq_analysis.specs.declared.placing.Places.{Places}
use Rattle.eq_analysis.specs.Declaring.{beside}
use Rattle.eq_analysis.specs.Placing.{bits_at, starts, end_of, IsPlaced, ArePlaces}
use Rattle.eq_analysis.proofs.BesideLemmas.{beside_there, beside_nowhere}

module _ (w : Name → ℕ) where
  starts_behind : (a : ℕ) (ns : List Name) (n : Name) → starts w a (ns ++ n ∷ []) ≡ starts w a ns ++ end_of w a ns ∷ []
  starts_behind a [] n = refl
  starts_behind a (k ∷ ns) n = ap (λ (xs : List ℕ). a ∷ xs) (starts_behind (a + w k) ns n)

  end_behind : (a : ℕ) (ns : List Name) (n : Name) → end_of w a (ns ++ n ∷ []) ≡ end_of w a ns + w n
  end_behind a [] n = refl
  end_behind a (k ∷ ns) n = end_behind (a + w k) ns n

  pub length_starts : (a : ℕ) (ns : List Name) → length (starts w a ns) ≡ length ns
  length_starts a [] = refl
  length_starts a (k ∷ ns) = let e = length_starts (a + w k) ns in omega arith

-- the name at a place
pub name_there : (ns : List Name) (k : ℕ) → k < length ns → slice_get ns k ≡ Some (get_or ns k [])
name_there [] k lt = absurd (omega arith)
name_there (n ∷ ns) zero lt = refl
name_there (n ∷ ns) (suc k) lt = name_there ns k (omega arith)

-- one net more
pub placed_more : (w : Name → ℕ) (names : List Name) (k : ℕ) (firsts more : List ℕ) (total sum bits : ℕ) →
    k < length names → IsPlaced w names k firsts total → more ≡ firsts ++ total ∷ [] →
    ((n : Name) → slice_get names k ≡ Some n → bits ≡ w n) → sum ≡ total + bits → sum ≤ 2 ^ 62 →
    IsPlaced w names (k + 1) more sum
placed_more w names k firsts more total sum bits lt before pushed width added low =
    let n = get_or names k [] in
    let grown = take_more names k [] lt in
    record {
      low = low;
      begin =
          pushed
          ∙ ap (λ (xs : List ℕ). xs ++ total ∷ []) before.begin
          ∙ ap (λ (t : ℕ). starts w 0 (take k names) ++ t ∷ []) before.ends
          ∙ sym (starts_behind w 0 (take k names) n)
          ∙ ap (starts w 0) (sym grown);
      ends =
          added
          ∙ ap (λ (b : ℕ). total + b) (width n (name_there names k lt))
          ∙ ap (λ (t : ℕ). t + w n) before.ends
          ∙ sym (end_behind w 0 (take k names) n)
          ∙ ap (end_of w 0) (sym grown);
    }

take_whole : (ns : List Name) → take (length ns) ns ≡ ns
take_whole [] = refl
take_whole (n ∷ ns) = ap (λ (ms : List Name). n ∷ ms) (take_whole ns)

pub placed_all : (m : ModuleTree) (k : ℕ) (p : Places) → k ≡ length p.names → p.names ≡ nets_in m →
    IsPlaced (bits_at m) p.names k p.starts.firsts.items p.starts.total → ArePlaces m p
placed_all m k p end names so_far =
    let whole = ap (λ (j : ℕ). take j p.names) end ∙ take_whole p.names in
    record {
      names = names;
      begin = so_far.begin ∙ ap (starts (bits_at m) 0) whole;
      ends = so_far.ends ∙ ap (end_of (bits_at m) 0) whole;
    }

here_or_later : (b : Bool) (a v x off : ℕ) (o : Option ℕ) → unwrap_or o x ≡ (a + v) + off →
    unwrap_or (cond b (Some a) o) x ≡ a + cond b 0 (v + off)
here_or_later true a v x off o h = omega arith
here_or_later false a v x off o h = (let e : (a + v) + off ≡ a + (v + off) = omega arith in h ∙ e)

-- where a net begins
offset_is : (m : ModuleTree) (a : ℕ) (ns : List Name) (n : Name) →
    unwrap_or (beside ns (starts (bits_at m) a ns) n) (end_of (bits_at m) a ns)
    ≡ a + offset (map (net_at (alone m)) ns) n
offset_is m a [] n = (let e : a ≡ a + 0 = omega arith in e)
offset_is m a (k ∷ ns) n =
    here_or_later (bytes_eq n k) a (bits_at m k) (end_of (bits_at m) (a + bits_at m k) ns)
    (offset (map (net_at (alone m)) ns) n) (beside ns (starts (bits_at m) (a + bits_at m k) ns) n)
    (offset_is m (a + bits_at m k) ns n)

module _ (m : ModuleTree) (p : Places) (are : ArePlaces m p) (n : Name) where
  same : length p.names ≡ length p.starts.firsts.items
  same = sym (length_starts (bits_at m) 0 p.names) ∙ ap (λ (xs : List ℕ). length xs) (sym are.begin)

  offset_beside : unwrap_or (beside p.names p.starts.firsts.items n) p.starts.total ≡ offset (nets_at (alone m)) n
  offset_beside =
      ap (λ (xs : List ℕ). unwrap_or (beside p.names xs n) p.starts.total) are.begin
      ∙ ap (λ (t : ℕ). unwrap_or (beside p.names (starts (bits_at m) 0 p.names) n) t) are.ends
      ∙ offset_is m 0 p.names n
      ∙ (let e : 0 + offset (map (net_at (alone m)) p.names) n ≡ offset (map (net_at (alone m)) p.names) n = omega arith
      in e)
      ∙ ap (λ (ns : List Name). offset (map (net_at (alone m)) ns) n) are.names

  pub offset_there : (k : ℕ) → number_of p.names n ≡ Some k →
      unwrap_or (slice_get p.starts.firsts.items k) p.starts.total ≡ offset (nets_at (alone m)) n
  offset_there k is =
      ap (λ (o : Option ℕ). unwrap_or o p.starts.total) (sym (beside_there p.names p.starts.firsts.items n k same is))
      ∙ offset_beside

  pub offset_nowhere : number_of p.names n ≡ None → p.starts.total ≡ offset (nets_at (alone m)) n
  offset_nowhere is =
      ap (λ (o : Option ℕ). unwrap_or o p.starts.total) (sym (beside_nowhere p.names p.starts.firsts.items n same is))
      ∙ offset_beside
