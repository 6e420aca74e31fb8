-- A text is within the buffer that it is written to, and so are two that are written one after the other.
use Prim.Native.Nat.{ℕ, ◌+◌, ◌-◌, ◌≤◌}
use native.Mathlib.Omega.{arith}
use mathlib.Core.Path.{◌≡◌, ap, ◌∙◌}
use mathlib.Core.List.{List}
use lib.ListN.{length, take, drop, length-append, length-take}
use Rattle.text.specs.Written.{Writes}

pub written_within : {bytes before after : List ℕ} {n : ℕ} → Writes bytes before after n → n ≤ length after
written_within {bytes} {before} w = omega (arith, w.count, ap length w.buffer ∙ length-append bytes (drop (length bytes) before))

pub both_within : {first second before mid part : List ℕ} {at n : ℕ} → Writes first before mid at → at ≤ length mid
    → Writes second (take (length mid - at) (drop at mid)) part n → length part ≡ length (take (length mid - at) (drop at mid))
    → at + n ≤ length mid
both_within {mid = mid} {at = at} w inside v kept = omega (arith, inside, written_within v, kept, length-take (length mid - at) (drop at mid))
