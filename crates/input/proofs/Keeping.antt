-- What is kept of an input: each read adds the bytes that it brings to those kept so far.
use Rattle.std.proofs.Common.{◌≡◌, ℕ, ◌+◌, ◌≤◌, List, ◌++◌, length, take, Option, ap, subst, sym, ◌∙◌}
use Rattle.std.proofs.Math.Seq.{take-append-add}
use Rattle.std.proofs.lemmas.List.{take-append-le, length-take-le}
use Rattle.std.specs.Io.KnownBytes.{Consumes}
use Rattle.std.proofs.KnownBytes.{Consumes-trans}
use borrow.Rule.Slice.PartMut.{put_mid, post_of}

-- n bytes more, read into the window behind those kept
front_more : (kept n room : ℕ) (window read : List ℕ) → kept ≤ length window → n ≤ length read
    → take (kept + n) (put_mid kept room window read) ≡ take kept window ++ take n read
front_more kept n room window read within brought =
    let front = take kept window in
    let behind = read ++ post_of kept room window in
    ap (λ (k : ℕ). take (k + n) (front ++ behind)) (sym (length-take-le kept window within))
    ∙ take-append-add front behind n
    ∙ ap (λ (bytes : List ℕ). front ++ bytes) (take-append-le n read (post_of kept room window) brought)

-- what is at the window's front then is what the input had first
pub kept_more : (first before after : Option (List ℕ)) (kept n room : ℕ) (window read : List ℕ) → Consumes first before (take kept window)
    → Consumes before after (take n read) → kept ≤ length window → n ≤ length read
    → Consumes first after (take (kept + n) (put_mid kept room window read))
kept_more first before after kept n room window read earlier now within brought =
    subst (Consumes first after) (sym (front_more kept n room window read within brought)) (Consumes-trans first before after _ _ earlier now)
