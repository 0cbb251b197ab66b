pub mod PlacesLemmas
pub mod ReciprocalLemmas
