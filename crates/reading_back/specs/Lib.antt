pub mod ReadBack
pub mod CertificatesReadBack
pub mod DocumentsReadBack
pub mod SameShares
