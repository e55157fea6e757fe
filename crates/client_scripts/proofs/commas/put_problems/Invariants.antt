use Rattle.std.proofs.Common.{take}
use Rattle.fw_facts.specs.Problems.{has_problem}
use Rattle.client_scripts.specs.Replies.{all_problems}
use Rattle.client_scripts.specs.Words.{problem_word}
use Rattle.client_scripts.proofs.Worded.{Worded, words_of}
use Rattle.client_scripts.proofs.commas.put_problems.Given as goal

abbrev pub invariant-loop-problem : goal.invariant-loop-problem
invariant-loop-problem l = Worded (words_of (has_problem l.machine l.view l.waiting) problem_word (take l.problem-index all_problems)) l.fn.out.items l.out.items l.begun
