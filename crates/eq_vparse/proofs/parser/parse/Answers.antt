use Rattle.std.proofs.Common.{◌≡◌, ◌≢◌, sym, ap, ◌∙◌}
use Rattle.eq_vparse.specs.declared.stop.Stop.TheVariants as stop
use Rattle.eq_vparse.specs.Limits.{limits}
use Rattle.eq_vparse.specs.Reading.{kinds, stopped}
use Rattle.eq_vparse.specs.SourceReading.{source_at}
use Rattle.eq_vparse.proofs.Trees.{read_is, read_only, refuses, refused_only, stopped_there, as_many}
use Rattle.eq_vparse.proofs.parser.parse.Goals as goal

pub returns-in-Ok-clause-ok : goal.returns-in-Ok-clause-ok
returns-in-Ok-clause-ok c =
    let start : c.new-cursor.result ≡ kinds c.args.tokens.now = c.new-cursor.ensures ∙ ap kinds c.as_slice.ensures in
    read_is limits (kinds c.args.tokens.now) _ c.in-Ok.source (ap (source_at limits) (sym start) ∙ c.in-Ok.ensures)

pub returns-in-Ok-clause-only_tree : goal.returns-in-Ok-clause-only_tree
returns-in-Ok-clause-only_tree c s h =
    let start : c.new-cursor.result ≡ kinds c.args.tokens.now = c.new-cursor.ensures ∙ ap kinds c.as_slice.ensures in
    read_only limits (kinds c.args.tokens.now) _ c.in-Ok.source s (ap (source_at limits) (sym start) ∙ c.in-Ok.ensures) h

pub returns-in-Err-clause-refused : goal.returns-in-Err-clause-refused
returns-in-Err-clause-refused c =
    let start : c.new-cursor.result ≡ kinds c.args.tokens.now = c.new-cursor.ensures ∙ ap kinds c.as_slice.ensures in
    let stops : c.in-Err.stop ≢ stop.Memory → source_at limits (kinds c.args.tokens.now) ≡ stopped c.in-Err.stop = λ e. ap (source_at limits) (sym start) ∙ c.in-Err.ensures e in
    refuses limits (kinds c.args.tokens.now) c.in-Err.stop _ c.located.result (c.len.ensures ∙ as_many c.args.tokens.now) stops c.located.ensures

pub returns-in-Err-clause-only_tree : goal.returns-in-Err-clause-only_tree
returns-in-Err-clause-only_tree c s h =
    let start : c.new-cursor.result ≡ kinds c.args.tokens.now = c.new-cursor.ensures ∙ ap kinds c.as_slice.ensures in
    let stops : c.in-Err.stop ≢ stop.Memory → source_at limits (kinds c.args.tokens.now) ≡ stopped c.in-Err.stop = λ e. ap (source_at limits) (sym start) ∙ c.in-Err.ensures e in
    refused_only limits (kinds c.args.tokens.now) c.in-Err.stop _ c.located.result s stops c.located.ensures h

pub returns-in-Err-clause-stopped : goal.returns-in-Err-clause-stopped
returns-in-Err-clause-stopped c =
    let start : c.new-cursor.result ≡ kinds c.args.tokens.now = c.new-cursor.ensures ∙ ap kinds c.as_slice.ensures in
    let stops : c.in-Err.stop ≢ stop.Memory → source_at limits (kinds c.args.tokens.now) ≡ stopped c.in-Err.stop = λ e. ap (source_at limits) (sym start) ∙ c.in-Err.ensures e in
    stopped_there limits (kinds c.args.tokens.now) c.in-Err.stop _ c.located.result (c.len.ensures ∙ as_many c.args.tokens.now) stops c.located.ensures
