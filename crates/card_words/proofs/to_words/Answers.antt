use Rattle.std.proofs.Common.{◌≡◌, refl, ap, ◌∙◌, ◌+◌, ◌*◌, get_or, arith, to_z-of_z, rules}
use lib.ListN.{set}
use lib.Seq.{sets}
use mir.Syntax.{w64}
use mir.Val.{SFits}
use Rattle.card.specs.Fields.{field_count}
use Rattle.card.specs.Confirmed.{fields_from}
use Rattle.card.specs.declared.Field.TheVariants.{Empty}
use Rattle.card_words.specs.Words.{field_words, words_of, latest_field, latest_before, latest_words, latest_place}
use Rattle.card_words.proofs.CardWords.{written, next-written, all-written}
use Rattle.card_words.proofs.to_words.Goals as goal

pub loop-i-init : goal.loop-i-init
unfolding fields_from words_of
loop-i-init c = refl

pub loop-i-preserved : goal.loop-i-preserved
loop-i-preserved c =
    let l = c.loop-i in
    c.put_field.ensures
    ∙ (λ j. sets (l.invariant j) (2 * l.i) (field_words (get_or (c.fields-field-items.ensures j) l.i Empty)))
    ∙ next-written c.args.card.now c.args.words.now l.i

pub returns : goal.returns
returns c =
    let l = c.loop-i in
    let whole : l.i ≡ field_count = omega arith in
    let fits : SFits w64 c.map_or.result = search rules in
    let first : c.map_or.result ≡ latest_field c.latest-latest.result = search rules in
    let second : c.map_or-2.result ≡ latest_before c.latest-latest.result = search rules in
    let field = to_z-of_z fits ∙ first ∙ ap latest_field c.latest-latest.ensures in
    let before = second ∙ ap latest_before c.latest-latest.ensures in
    c.put_field-2.ensures
    ∙ (λ j. sets (set l.words latest_place (field j)) (latest_place + 1) (field_words (before j)))
    ∙ ap (λ w. sets w latest_place (latest_words c.args.card.now.latest)) (l.invariant ∙ ap (written c.args.card.now c.args.words.now) whole)
    ∙ all-written c.args.card.now c.args.words.now c.requires
