use Rattle.std.proofs.Common.{take}
use Rattle.fw_facts.specs.Flags.{all_flags, flag_word, has_flag}
use Rattle.client_scripts.proofs.Worded.{Worded, words_of}
use Rattle.client_scripts.proofs.commas.put_flags.Given as goal

abbrev pub invariant-loop-flag : goal.invariant-loop-flag
invariant-loop-flag l = Worded (words_of (λ flag. has_flag flag l.flags) flag_word (take l.flag-index all_flags)) l.fn.out.items l.out.items l.begun
