mod Travelling
