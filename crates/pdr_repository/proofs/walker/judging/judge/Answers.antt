use Rattle.std.proofs.Common.{inl, inr, refl}
use Rattle.pdr_repository.proofs.Handles.{passed}
use Rattle.pdr_repository.proofs.walker.judging.judge.Goals as goal

pub returns-then-has_wrong_handle : goal.returns-then-has_wrong_handle
returns-then-has_wrong_handle c = inr (passed c.if-has_wrong_flag.ensures, inr (passed c.if-has_wrong_size.ensures, inr (passed c.if-has_wrong_crc.ensures, inl (c.if-has_wrong_handle.ensures.0 refl, refl))))

pub returns-then-has_doubled_handle : goal.returns-then-has_doubled_handle
returns-then-has_doubled_handle c = inr (passed c.if-has_wrong_flag.ensures, inr (passed c.if-has_wrong_size.ensures, inr (passed c.if-has_wrong_crc.ensures, inr (passed c.if-has_wrong_handle.ensures, inl (c.if-has_doubled_handle.ensures.0 refl, refl)))))

pub returns-then-is_too_much : goal.returns-then-is_too_much
returns-then-is_too_much c = inr (passed c.if-has_wrong_flag.ensures, inr (passed c.if-has_wrong_size.ensures, inr (passed c.if-has_wrong_crc.ensures, inr (passed c.if-has_wrong_handle.ensures, inr (passed c.if-has_doubled_handle.ensures, inl (c.if-is_too_much.ensures.0 refl, refl))))))

pub returns : goal.returns
returns c = inr (passed c.if-has_wrong_flag.ensures, inr (passed c.if-has_wrong_size.ensures, inr (passed c.if-has_wrong_crc.ensures, inr (passed c.if-has_wrong_handle.ensures, inr (passed c.if-has_doubled_handle.ensures, inr (passed c.if-is_too_much.ensures, refl))))))
