use Rattle.std.proofs.Common.{◌≡◌, ℕ, ◌+◌, ◌<◌, List, sum_by, map, length, ap, subst, sym, ◌∙◌}
use Rattle.eq_bits.specs.declared.node.Node.{Node}
use Rattle.eq_bits.specs.declared.node.Node.TheVariants.{Input}
use Rattle.eq_bits.specs.Node.{node_at}
use Rattle.eq_net.specs.declared.types.Driver.{Driver}
use Rattle.eq_net.specs.declared.types.NetInfo.{NetInfo}
use Rattle.eq_net.specs.declared.types.Word.{Word}
use Rattle.eq_net.specs.Meaning.{cost_of}
use Rattle.eq_net.specs.Net.{bits_of}
use Rattle.eq_net.specs.Tree.{trees_of}
use Rattle.eq_net.specs.Whole.{parts_of}
use Rattle.eq_blast.specs.inner.Growing.{Grown}
use Rattle.eq_blast.specs.inner.Rows.{HasRows, drive_node}
use Rattle.eq_blast.specs.inner.Wiring.{IsWired}
use Rattle.eq_blast.proofs.Driven.{wired}
use Rattle.eq_blast.proofs.Layers.{length-trees_of}
use Rattle.eq_blast.proofs.wiring.wire.Goals as goal

pub returns : goal.returns
returns c =
    let net = c.args.net.now in
    let b0 = c.in_ok-builder.builder in
    let b1 = c.add_bits.new.builder in
    let b2 = c.put_words.new.builder in
    let rows = c.in_ok-rows.rows.items in
    let add = c.in_ok-add_bits.ensures in
    let put = c.in_ok-rows.ensures in
    let count : c.bits.result ≡ bits_of net.nets = c.bits.ensures in
    let B : ℕ → Type 0 = λ n. (b : ℕ) → b < n → node_at b1 (length b0 + b) ≡ Input b in
    let nets : c.as_slice-nets.result.now ≡ net.nets = c.as_slice-nets.ensures in
    let words : c.as_slice.result.now ≡ net.words = c.as_slice.ensures in
    let drivers : c.as_slice-2.result.now ≡ net.drivers = c.as_slice-2.ensures in
    let G : List Word → Type 0 = λ ws. Grown (sum_by cost_of (trees_of ws)) b1 b2 in
    let H : List NetInfo → Type 0 = λ ns. HasRows ns (trees_of c.as_slice.result.now) (length c.as_slice.result.now) b2 rows in
    let I : List Word → Type 0 = λ ws. HasRows net.nets (trees_of ws) (length ws) b2 rows in
    let J : ℕ → Type 0 = λ n. HasRows net.nets (trees_of net.words) n b2 rows in
    let W : List Node → Type 0 = λ ns. IsWired (parts_of net) ns c.in_ok-drives.drives in
    subst W (sym c.finish.ensures.nodes)
    (wired (parts_of net) b0 b1 b2 rows c.in_ok-drives.drives net.is_net.one_driver net.is_net.drivers_named c.in_ok-builder.ensures
    (add.size ∙ ap (λ n. length b0 + n) count) add.kept (subst B count add.bits) (subst G words put.grown)
    (subst J (sym (length-trees_of net.words)) (subst I words (subst H nets put.rows))) c.finish.ensures.operands
    (c.in_ok-drives.ensures ∙ ap (λ (rs : List (List ℕ)). map (drive_node rs) c.as_slice-2.result.now) c.deref-2.ensures.value ∙ ap (λ (ds : List Driver). map (drive_node rows) ds) drivers))
