pub mod TwelveFacts
