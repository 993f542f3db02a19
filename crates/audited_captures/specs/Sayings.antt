-- What the code tells of words, wherever the words lie.
use Rattle.std.specs.Prelude.{option_map}
use Rattle.audited_captures.{specs.Talk.{Saying, AskedAgain, AnsweredAgain, Unasked}, specs.Words.{word_value}}
use Rattle.audited_captures.specs.declared.talk.Saying as code
use Rattle.audited_captures.specs.declared.talk.Saying.TheVariants as saying

abbrev pub saying_value : code.Saying → Saying
saying_value saying.AskedAgain = AskedAgain
saying_value saying.AnsweredAgain = AnsweredAgain
saying_value (saying.Unasked earlier) = Unasked (option_map (λ w. word_value w.now) earlier)
