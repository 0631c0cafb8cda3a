-- "it works out both end values in one pass, first item to last": what an answered item does to the running end values.
use Rattle.std.specs.Prelude.{ℕ, ◌+◌}
use Rattle.algebra.specs.Mod.{add_mod, mul_mod}
use Rattle.vector.specs.Vector.{at, weight}
use Rattle.item.specs.declared.Item.{Item}
use Rattle.item.specs.declared.Start.{Start}
use Rattle.item.specs.Item.{enters_as}
use Rattle.verifier.specs.declared.Verifier.{Verifier}
use Rattle.verifier.specs.Reply as reply
use Rattle.verifier.specs.Records.{Replied}

-- the number that enters f
unfoldable pub entering : ℕ → Start → ℕ → ℕ → ℕ
entering p s i f = enters_as p s i f

-- with so many items taken, and these running end values
abbrev pub summing : Verifier → ℕ → ℕ → ℕ → Verifier
summing v taken fsum gsum =
    record {
      start = v.start;
      challenges = v.challenges;
      closed = v.closed;
      taken = taken;
      fsum = fsum;
      gsum = gsum;
      claim = v.claim;
      round = v.round;
      failed = v.failed;
    }

-- the next item, each number times the challenges over the ones of its index
unfoldable pub one_more : ℕ → Verifier → ℕ → ℕ → Verifier
one_more p v f g =
    summing v (v.taken + 1)
    (add_mod p v.fsum (mul_mod p (entering p v.start v.taken f) (weight p (at v.challenges) v.start.rounds v.taken)))
    (add_mod p v.gsum (mul_mod p g (weight p (at v.challenges) v.start.rounds v.taken)))

abbrev pub takes : ℕ → Verifier → Item → Replied
takes p v x = record { verifier = one_more p v x.f x.g; reply = reply.taken }
