-- `tables::pushes::frames_for`: the chain is the definition.
use Rattle.std.proofs.Common.{◌≡◌, ◌∙◌, rules, lit<}
use Rattle.std.specs.List.{fold}
use Rattle.tables.proofs.Chains.{plus, added}
use Rattle.tables.proofs.pushes.frames_for.Goals as goal

pub returns : goal.returns
returns c =
    let l = c.args.ops.now in let e : c.fold.result ≡ fold plus 0 l = search rules in e ∙ added 0 l (lit< tt)
