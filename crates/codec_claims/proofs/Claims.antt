-- Every claim of specs/Claims.antt, proved.
-- Assumes nothing.
use Rattle.codec_claims.specs.Claims.{Claims}
use Rattle.codec_claims.proofs.Encoding.{encode_writes, encode_refuses}
use Rattle.codec_claims.proofs.Decoding.{decode_corrects_at, four_only, many_erasures, decode_refuses}
use Rattle.codec_claims.proofs.Corrections.{decode_errors}
use Rattle.codec_claims.proofs.Counts.{decode_counts}
use Rattle.codec_claims.proofs.Filling.{decode_fills_at}
use Rattle.codec_claims.proofs.SyndromeDecoding.{decoders_agree, decode_allows_so, syndromes_correct, syndromes_fill}
use Rattle.codec_claims.proofs.SyndromeDecoding.{locates_corrected}
use Rattle.codec_claims.proofs.RoundTrip.{round_trip}

pub claims : Claims
claims =
    record {
      encode_writes = encode_writes;
      encode_refuses = encode_refuses;
      decode_corrects = decode_corrects_at;
      decode_errors = decode_errors;
      decode_counts = decode_counts;
      four_only = four_only;
      decode_fills = decode_fills_at;
      many_erasures = many_erasures;
      decode_refuses = decode_refuses;
      round_trip = round_trip;
      decoders_agree = decoders_agree;
      decode_allows_so = decode_allows_so;
      syndromes_correct = syndromes_correct;
      syndromes_fill = syndromes_fill;
      locates_corrected = locates_corrected;
    }
