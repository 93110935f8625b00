-- A payload spells one value at most.
use Rattle.std.proofs.Common.{◌≡◌, ℕ, Bool, true, false, List, [], ◌++◌, get_or, drop, refl, ap, arith}
use Rattle.repl_copy.specs.declared.payload.Stream.{Stream}
use Rattle.repl_copy.specs.declared.payload.Stream.TheVariants as stream
use Rattle.repl_copy.specs.declared.payload.Reply.{Reply}
use Rattle.repl_copy.specs.declared.payload.Reply.TheVariants as reply
use Rattle.repl_copy.specs.Payload.{int32, int64, flag, stream_spelling, reply_spelling, IsStream, IsReply}
use Rattle.repl_copy.proofs.Numbers.{long_one, short_one}

flag_one : (a b : Bool) → flag a ≡ flag b → a ≡ b
flag_one true true e = refl
flag_one false false e = refl
flag_one true false e = absurd cc
flag_one false true e = absurd cc

first_is : (bytes others : List ℕ) → bytes ≡ others → get_or bytes 0 0 ≡ get_or others 0 0
first_is bytes others e = ap (λ (t : List ℕ). get_or t 0 0) e

pub stream_one : (a b : Stream) → IsStream a → IsStream b → stream_spelling a ≡ stream_spelling b → a ≡ b
stream_one (stream.Wal s e c x) (stream.Wal t f d y) a_fits b_fits same =
    let first = long_one s t (int64 e ++ (int64 c ++ x)) (int64 f ++ (int64 d ++ y)) a_fits.0 b_fits.0 (ap (drop 1) same) in
    let second = long_one e f (int64 c ++ x) (int64 d ++ y) a_fits.1 b_fits.1 first.1 in
    let third = long_one c d x y a_fits.2 b_fits.2 second.1 in
    cc
stream_one (stream.Keepalive e c x) (stream.Keepalive f d y) a_fits b_fits same =
    let first = long_one e f (int64 c ++ flag x) (int64 d ++ flag y) a_fits.0 b_fits.0 (ap (drop 1) same) in
    let second = long_one c d (flag x) (flag y) a_fits.1 b_fits.1 first.1 in
    let third = flag_one x y second.1 in
    cc
stream_one (stream.Wal s e c x) (stream.Keepalive f d y) a_fits b_fits same =
    absurd (omega (arith, first_is (stream_spelling (stream.Wal s e c x)) (stream_spelling (stream.Keepalive f d y)) same))
stream_one (stream.Keepalive e c x) (stream.Wal t f d y) a_fits b_fits same =
    absurd (omega (arith, first_is (stream_spelling (stream.Keepalive e c x)) (stream_spelling (stream.Wal t f d y)) same))

pub reply_one : (a b : Reply) → IsReply a → IsReply b → reply_spelling a ≡ reply_spelling b → a ≡ b
reply_one (reply.Status w f a c x) (reply.Status v g b d y) a_fits b_fits same =
    let first = long_one w v (int64 f ++ (int64 a ++ (int64 c ++ flag x))) (int64 g ++ (int64 b ++ (int64 d ++ flag y))) a_fits.0 b_fits.0
    (ap (drop 1) same) in
    let second = long_one f g (int64 a ++ (int64 c ++ flag x)) (int64 b ++ (int64 d ++ flag y)) a_fits.1 b_fits.1 first.1 in
    let third = long_one a b (int64 c ++ flag x) (int64 d ++ flag y) a_fits.2 b_fits.2 second.1 in
    let fourth = long_one c d (flag x) (flag y) a_fits.3 b_fits.3 third.1 in
    let fifth = flag_one x y fourth.1 in
    cc
reply_one (reply.Feedback c x e y f) (reply.Feedback d v g w h) a_fits b_fits same =
    let first = long_one c d (int32 x ++ (int32 e ++ (int32 y ++ int32 f))) (int32 v ++ (int32 g ++ (int32 w ++ int32 h))) a_fits.0 b_fits.0
    (ap (drop 1) same) in
    let second = short_one x v (int32 e ++ (int32 y ++ int32 f)) (int32 g ++ (int32 w ++ int32 h)) a_fits.1 b_fits.1 first.1 in
    let third = short_one e g (int32 y ++ int32 f) (int32 w ++ int32 h) a_fits.2 b_fits.2 second.1 in
    let fourth = short_one y w (int32 f) (int32 h) a_fits.3 b_fits.3 third.1 in
    let fifth = short_one f h [] [] a_fits.4 b_fits.4 fourth.1 in
    cc
reply_one (reply.Status w f a c x) (reply.Feedback d v g y h) a_fits b_fits same =
    absurd (omega (arith, first_is (reply_spelling (reply.Status w f a c x)) (reply_spelling (reply.Feedback d v g y h)) same))
reply_one (reply.Feedback d v g y h) (reply.Status w f a c x) a_fits b_fits same =
    absurd (omega (arith, first_is (reply_spelling (reply.Feedback d v g y h)) (reply_spelling (reply.Status w f a c x)) same))
