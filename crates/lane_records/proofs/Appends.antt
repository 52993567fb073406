-- What appends leave.
use Rattle.std.proofs.Common.{◌≡◌, ℕ, ◌≤◌, List, ◌++◌, length, Result, Ok, Err, IfOk, append_assoc}
use Rattle.std.specs.Prelude.{Vec}
use Rattle.std.specs.declared.alloc.Global.{Global}
use Rattle.std.specs.declared.alloc.AllocError.{AllocError}

pub five : (o a b c d e s1 s2 s3 s4 : List ℕ) → s1 ≡ o ++ a → s2 ≡ s1 ++ b → s3 ≡ s2 ++ c → s4 ≡ s3 ++ d → s4 ++ e ≡ o ++ (a ++ (b ++ (c ++ (d ++ e))))
five o a b c d e s1 s2 s3 s4 p1 p2 p3 p4 = rw (p4, p3, p2, p1) (simp append_assoc)

-- what is spelled is as long as its spelling
pub bounded_ok : (r : Result (Vec ℕ Global) AllocError) (text : List ℕ) (most : ℕ) → length text ≤ most → IfOk r (λ out. out.items ≡ text) → IfOk r (λ out. length out.items ≤ most)
bounded_ok (Ok out) text most le e = rw e le
bounded_ok (Err x) text most le e = tt
