-- `questions::read_text` meets its contract: a law a return.
use Rattle.std.proofs.Common.{arith, rules, ◌+◌}
use Rattle.std.proofs.lemmas.Grind.{common_steps}
use Rattle.lists.specs.Lines.{Letters}
use Rattle.lists.specs.inside.Lists.{Worded}
use Rattle.questions.specs.Texts.{prefix_key, loop_key, WrongLine}
use Rattle.lists.proofs.Keyed.{lists-wrong, lists-read}
use Rattle.questions.proofs.Answers.{upto-prefix, upto-loop, wrong-prefix, wrong-loop, wrong-ask}
use Rattle.questions.proofs.Answers.{wrong-behind, reads_whole}
use Rattle.questions.proofs.Entering.{ask-none, ask-some}
use Rattle.questions.proofs.read_text.Goals as goal

pub returns-in_err-first : goal.returns-in_err-first
returns-in_err-first c =
    let w : WrongLine c.args.text.now 1
    = wrong-prefix c.args.text.now
    (lists-wrong (Worded prefix_key Letters) _ _ _ _ c.letters.ensures c.in_err-first.ensures.ok_part) in
    grind (arith, common_steps, w)

pub returns-in_err-laps : goal.returns-in_err-laps
returns-in_err-laps c =
    let first = lists-read c.letters.ensures c.in_ok-first.ensures.ok_part in
    let w : WrongLine c.args.text.now 2
    = wrong-loop (upto-prefix first)
    (lists-wrong (Worded loop_key Letters) _ _ _ _ c.letters-2.ensures c.in_err-laps.ensures.ok_part) in
    grind (arith, common_steps, w)

pub returns-in_err-asked : goal.returns-in_err-asked
returns-in_err-asked c =
    let first = lists-read c.letters.ensures c.in_ok-first.ensures.ok_part in
    let second = lists-read c.letters-2.ensures c.in_ok-laps.ensures.ok_part in
    let w : WrongLine c.args.text.now (c.entry_lines-entries.result.count + 3)
    = wrong-ask (upto-loop (upto-prefix first) second) c.entry_lines-entries.ensures
    (ask-none _ c.numbers.result c.numbers.ensures c.in_err-asked.ensures.ok_part) in
    grind (arith, common_steps, w)

pub returns-then-not-is_empty : goal.returns-then-not-is_empty
returns-then-not-is_empty c =
    let first = lists-read c.letters.ensures c.in_ok-first.ensures.ok_part in
    let second = lists-read c.letters-2.ensures c.in_ok-laps.ensures.ok_part in
    let ask = ask-some _ c.numbers.result c.numbers.ensures c.in_ok-asked.ensures.ok_part in
    wrong-behind (upto-loop (upto-prefix first) second) c.entry_lines-entries.ensures ask (search rules)

pub returns : goal.returns
returns c =
    let first = lists-read c.letters.ensures c.in_ok-first.ensures.ok_part in
    let second = lists-read c.letters-2.ensures c.in_ok-laps.ensures.ok_part in
    let ask = ask-some _ c.numbers.result c.numbers.ensures c.in_ok-asked.ensures.ok_part in
    reads_whole c.told-prefix c.told-looped c.told-table first second c.entry_lines-entries.ensures ask
    (search rules)
