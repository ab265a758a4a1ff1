pub mod CorrectionRange
