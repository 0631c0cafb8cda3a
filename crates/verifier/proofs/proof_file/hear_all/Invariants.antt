use mathlib.Core.Path.{◌≡◌}
use Rattle.verifier.specs.ProofFile.{file_message, hears_first}
use Rattle.verifier.proofs.proof_file.hear_all.Given as goal

abbrev pub invariant-loop-k : goal.invariant-loop-k
invariant-loop-k l = l.heard ≡ hears_first l.p l.initial.heard (file_message l.file) l.k
