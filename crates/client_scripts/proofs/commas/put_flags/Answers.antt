use Rattle.fw_facts.specs.Flags.{all_flags, flag_word, has_flag}
use Rattle.client_scripts.proofs.Worded.{put_fit_at}
use Rattle.client_scripts.proofs.commas.put_flags.Goals as goal

pub loop-flag-preserved : goal.loop-flag-preserved
loop-flag-preserved c = put_fit_at (λ flag. has_flag flag c.args.flags) flag_word all_flags c.loop-flag.flag-index _ c.has.result c.word.result.now _ _ _ _ _ c.loop-flag-test.true c.has.ensures c.word.ensures c.loop-flag.invariant c.in_ok-begun.ensures.text c.in_ok-begun.ensures.begun
