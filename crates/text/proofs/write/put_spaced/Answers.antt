use Rattle.std.proofs.Common.{◌≡◌, ap, ◌∙◌, rules}
use Rattle.std.specs.Fmt.{signed_decimal}
use Rattle.text.proofs.Numbers.{spaced_put}
use Rattle.filling.specs.Filled.{extended}
use Rattle.text.proofs.write.put_spaced.Goals as goal

pub returns : goal.returns
returns c =
    let digits : c.as_bytes.result.now ≡ signed_decimal c.args.z = search rules in
    spaced_put _ _ _ c.args.z _ c.requires (c.extend.ensures ∙ ap (extended _) digits) c.push.ensures (search rules)
