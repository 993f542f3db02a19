use Rattle.std.{proofs.Common.{rules, ◌≡◌, ◌-◌, ◌∷◌, length, drop, ap, subst, ◌∙◌, arith}, specs.Prelude.{IsSomeAnd}}
use Rattle.json.specs.Lex.{tokens}
use Rattle.net_pointers.{specs.Offsets.{AreTokensFrom}, proofs.Ends.{end_is}}
use Rattle.net_pointers.proofs.offset.offset_before.Goals as goal

pub returns : goal.returns
returns c = λ u us ends long sound.
    let all = tokens c.args.text.now in
    let e = end_is all (u ∷ us) ends in
    let before : c.saturating_sub-before.result ≡ length all - length (u ∷ us) = grind arith in
    let same : c.as_bytes.result.now ≡ c.args.text.now = search rules in
    subst (λ text. IsSomeAnd c.token_offset.result (λ offset. AreTokensFrom text offset (u ∷ us))) same
    (c.token_offset.ensures u us (ap (λ text. drop c.saturating_sub-before.result (tokens text)) same ∙ ap (λ n. drop n all) before ∙ e.1) sound)
