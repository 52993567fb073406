-- What several appends one after the other leave.
use Rattle.std.proofs.Common.{◌≡◌, ℕ, List, [], ◌∷◌, ◌++◌, append_assoc}

pub seven : (o a b c d e f g s1 s2 s3 s4 s5 s6 : List ℕ) → s1 ≡ o ++ a → s2 ≡ s1 ++ b → s3 ≡ s2 ++ c → s4 ≡ s3 ++ d → s5 ≡ s4 ++ e → s6 ≡ s5 ++ f
    → s6 ++ g ≡ o ++ (a ++ (b ++ (c ++ (d ++ (e ++ (f ++ g))))))
seven o a b c d e f g s1 s2 s3 s4 s5 s6 p1 p2 p3 p4 p5 p6 = rw (p6, p5, p4, p3, p2, p1) (simp append_assoc)

pub four : (o a b c d s1 s2 s3 : List ℕ) → s1 ≡ o ++ a → s2 ≡ s1 ++ b → s3 ≡ s2 ++ c → s3 ++ d ≡ o ++ (a ++ (b ++ (c ++ d)))
four o a b c d s1 s2 s3 p1 p2 p3 = rw (p3, p2, p1) (simp append_assoc)

-- a first byte, and the fields behind it
pub coded : (o fields text s1 : List ℕ) (code first : ℕ) → s1 ≡ o ++ code ∷ [] → code ≡ first → text ≡ first ∷ fields → s1 ++ fields ≡ o ++ text
coded o fields text s1 code first p is t = rw (p, is, t) (append_assoc o (first ∷ []) fields)
