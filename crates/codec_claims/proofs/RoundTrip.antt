-- The round trip: demand 2 says that the word is a codeword that carries the pair, and demand 3 that a codeword is read as what it carries.
-- Assumes nothing.
use mathlib.Core.Path.{◌∙◌}
use Rattle.codec_claims.specs.RoundTrip.{RoundTrip}
use Rattle.codec_claims.proofs.Encoding.{encode_writes}
use Rattle.codec_claims.proofs.Decoding.{decode_corrects_at}

pub round_trip : RoundTrip
round_trip o i l a b made out word h d p t e s r before_first first before_second second allowed first_long second_long =
    let w = (encode_writes o i l a b made out word h d p t e s).1 in
    let (clean, pair) =
    (decode_corrects_at o i d p).unchanged word w.is_codeword r first second
    record {
      before_first = before_first;
      before_second = before_second;
      first_long = first_long;
      second_long = second_long;
      allowed = allowed;
    } in
    record { report = clean; first_is = pair.first_is ∙ w.first; second_is = pair.second_is ∙ w.second }
