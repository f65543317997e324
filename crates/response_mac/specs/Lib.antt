pub mod Hmac
pub mod ResponseMac
