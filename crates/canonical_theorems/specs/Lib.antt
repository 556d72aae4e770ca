-- That every plan has one form.
pub mod CanonicalTheorems
