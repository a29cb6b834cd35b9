-- Laws of bytes that a source gave and a sink took, in parts and as a whole.
use Rattle.std.proofs.Common.{◌≡◌, ◌++◌, ◌∙◌, [], List, ℕ, Option, Some, None, refl, sym, ap, subst, append_assoc, append-nil}
use Rattle.std.specs.Io.KnownBytes.{prepend_known, append_known}
use Rattle.q4_flow.specs.Flow.{Gave, Took, TookFront}

pub prepended_twice : (xs ys : List ℕ) (o : Option (List ℕ)) → prepend_known xs (prepend_known ys o) ≡ prepend_known (xs ++ ys) o
prepended_twice xs ys None = refl
prepended_twice xs ys (Some zs) = ap Some (sym (append_assoc xs ys zs))

prepended_nothing : (o : Option (List ℕ)) → prepend_known [] o ≡ o
prepended_nothing None = refl
prepended_nothing (Some zs) = refl

pub gave_nothing : (o : Option (List ℕ)) → Gave o o []
gave_nothing o = sym (prepended_nothing o)

pub gave_more : (a b c : Option (List ℕ)) (xs ys : List ℕ) → Gave a b xs → Gave b c ys → Gave a c (xs ++ ys)
gave_more a b c xs ys first second = first ∙ ap (prepend_known xs) second ∙ prepended_twice xs ys c

-- nothing more, as the end of a source is told
pub gave_end : (a b c : Option (List ℕ)) (xs : List ℕ) → Gave a b xs → Gave b c [] → Gave a c xs
gave_end a b c xs first second = subst (Gave a c) (append-nil xs) (gave_more a b c xs [] first second)

pub appended_twice : (o : Option (List ℕ)) (xs ys : List ℕ) → append_known (append_known o xs) ys ≡ append_known o (xs ++ ys)
appended_twice None xs ys = refl
appended_twice (Some zs) xs ys = ap Some (append_assoc zs xs ys)

appended_nothing : (o : Option (List ℕ)) → append_known o [] ≡ o
appended_nothing None = refl
appended_nothing (Some zs) = ap Some (append-nil _)

pub took_nothing : (o : Option (List ℕ)) → Took o o []
took_nothing o = sym (appended_nothing o)

pub took_more : (a b c : Option (List ℕ)) (xs ys : List ℕ) → Took a b xs → Took b c ys → Took a c (xs ++ ys)
took_more a b c xs ys first second = second ∙ ap (λ o. append_known o ys) first ∙ appended_twice a xs ys

-- all of the first bytes and a front of the others
pub took_then_front : (a b c : Option (List ℕ)) (xs ys : List ℕ) → Took a b xs → TookFront b c ys → TookFront a c (xs ++ ys)
took_then_front a b c xs ys first second = record {
  front = xs ++ second.front;
  is_front = record { rest = second.is_front.rest; whole = ap (λ zs. xs ++ zs) second.is_front.whole ∙ sym (append_assoc xs second.front second.is_front.rest) };
  took = took_more a b c xs second.front first second.took;
}

-- a front of the first bytes is one of all
pub front_of_more : (a b : Option (List ℕ)) (xs ys : List ℕ) → TookFront a b xs → TookFront a b (xs ++ ys)
front_of_more a b xs ys first = record {
  front = first.front;
  is_front = record { rest = first.is_front.rest ++ ys; whole = ap (λ zs. zs ++ ys) first.is_front.whole ∙ append_assoc first.front first.is_front.rest ys };
  took = first.took;
}

pub took_as_front : (a b : Option (List ℕ)) (xs : List ℕ) → Took a b xs → TookFront a b xs
took_as_front a b xs took = record { front = xs; is_front = record { rest = []; whole = sym (append-nil _) }; took = took }
