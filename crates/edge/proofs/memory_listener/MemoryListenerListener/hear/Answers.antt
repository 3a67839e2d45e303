use Rattle.std.proofs.Common.{rules, ◌≡◌, ◌-◌, [], ◌∷◌, ◌++◌, ap, ◌∙◌}
use Rattle.edge.specs.Hearing.{heard_size}
use Rattle.edge.specs.Memory.{counted}
use Rattle.edge.proofs.HeardLemmas.{messages, one_more}
use Rattle.edge.proofs.memory_listener.MemoryListenerListener.hear.Goals as goal

pub returns-clause-heard : goal.returns-clause-heard
returns-clause-heard c =
    let sheets = c.self.inside.sheets.items in
    let puts = c.self.inside.lines.puts in
    let pushed : c.push.new.self.items ≡ sheets ++ c.args.sheet ∷ [] = search rules in
    ap (λ all. messages all c.put.new.self.puts) pushed
    ∙ ap (λ drawer. messages (sheets ++ c.args.sheet ∷ []) drawer.puts) c.in_ok-put.ensures.ok
    ∙ one_more sheets puts c.args.sheet _ c.self.invariant.0
    ∙ ap (λ listener. listener.heard ++ (c.args.sheet, c.args.line.now) ∷ []) c.self.view_is

pub returns-clause-ok : goal.returns-clause-ok
returns-clause-ok c =
    let view = c.self.view_is in
    let heard = returns-clause-heard c in
    let room : c.put.new.self.room ≡ c.args.self.now.room - heard_size c.args.line.now =
    ap (λ drawer. drawer.room) c.in_ok-put.ensures.ok ∙ ap (λ listener. listener.room - heard_size c.args.line.now) view in
    let calls : c.put.new.self.calls ≡ counted c.args.self.now.calls = ap (λ drawer. drawer.calls) c.in_ok-put.ensures.ok ∙ ap (λ listener. counted listener.calls) view in
    λ i. record { heard = heard i; room = room i; calls = calls i }
