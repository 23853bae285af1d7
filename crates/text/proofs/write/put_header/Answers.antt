use Rattle.std.proofs.Common.{◌≡◌, decimal, ap, ◌∙◌, rules}
use Rattle.text.proofs.Numbers.{header_put}
use Rattle.filling.specs.Filled.{extended}
use Rattle.text.proofs.write.put_header.Goals as goal

pub returns : goal.returns
returns c =
    let first : c.as_bytes.result.now ≡ decimal c.args.variables = search rules in
    let second : c.as_bytes-2.result.now ≡ decimal c.args.clauses = search rules in
    header_put _ _ _ _ _ _ _ _ c.requires c.extend.ensures (c.extend-2.ensures ∙ ap (extended _) first) c.push.ensures (c.extend-3.ensures ∙ ap (extended _) second) c.push-2.ensures
