-- What is claimed of encode, of both decoders and of the step that locates an error, by what their contracts allow, all of it fields of one
-- record. proofs/Claims.antt has a term of it.
-- Assumes nothing.
use Rattle.codec_claims.specs.Encoding.{EncodeWrites, EncodeRefuses}
use Rattle.codec_claims.specs.Decoding.{DecodeCorrects, DecodeErrors, DecodeCounts, OnlyLetThrough, ManyErasures, DecodeRefuses}
use Rattle.codec_claims.specs.Filling.{DecodeFills}
use Rattle.codec_claims.specs.SyndromeDecoding.{DecodersAgree, DecodeAllowsSo, SyndromesCorrect, SyndromesFill, LocatesCorrected}
use Rattle.codec_claims.specs.RoundTrip.{RoundTrip}

pub record Claims : Type 0 where
  pub encode_writes : EncodeWrites
  pub encode_refuses : EncodeRefuses
  pub decode_corrects : DecodeCorrects
  pub decode_errors : DecodeErrors
  pub decode_counts : DecodeCounts
  pub four_only : OnlyLetThrough 4
  pub decode_fills : DecodeFills
  pub many_erasures : ManyErasures
  pub decode_refuses : DecodeRefuses
  pub round_trip : RoundTrip
  pub decoders_agree : DecodersAgree
  pub decode_allows_so : DecodeAllowsSo
  pub syndromes_correct : SyndromesCorrect
  pub syndromes_fill : SyndromesFill
  pub locates_corrected : LocatesCorrected
